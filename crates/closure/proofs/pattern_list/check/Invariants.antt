use Rattle.std.{proofs.Common.◌≡◌, proofs.Common.take, specs.Prelude.map}
use Rattle.answers.specs.Grammar.{said_pattern}
use Rattle.closure.specs.PatternList.{IsListOf}
use Rattle.closure.proofs.pattern_list.check.Given as goal

abbrev pub invariant-loop-pattern : goal.invariant-loop-pattern
invariant-loop-pattern g l = record {
  level : l.list.board.now ≡ l.board;
  added : IsListOf (map said_pattern (take l.pattern-index l.patterns)) l.list;
}
