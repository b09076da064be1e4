use Rattle.std.proofs.Common.{◌≡◌, ◌+◌, length, take, vec_capacity}
use Rattle.std.specs.Prelude.{map}
use Rattle.answers.specs.Canonical.{lone_patterns}
use Rattle.answers.specs.Grammar.{said_pattern}
use Rattle.maker.proofs.making.patterns_of.Given as goal

abbrev pub invariant-loop-cell : goal.invariant-loop-cell
invariant-loop-cell l = record {
  list : map said_pattern l.patterns.items ≡ lone_patterns (take l.cell-index l.dead);
  count : length l.patterns.items ≡ l.cell-index;
  capacity : vec_capacity l.patterns ≡ length l.dead + 1;
}
