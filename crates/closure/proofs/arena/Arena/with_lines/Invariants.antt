use Rattle.std.{proofs.Common.◌≡◌, proofs.Common.take, specs.Prelude.map}
use Rattle.answers.specs.Grammar.{said_pattern}
use Rattle.closure.specs.Arena.{lines_in}
use Rattle.closure.proofs.arena.Arena.with_lines.Given as goal

abbrev pub invariant-loop-pattern : goal.invariant-loop-pattern
invariant-loop-pattern l = lines_in l.arena ≡ map said_pattern (take l.pattern-index l.patterns)
