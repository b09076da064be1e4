use Rattle.std.proofs.Common.{◌≤◌, List, ℕ, ◌++◌, length, vec_len}
use Rattle.board.specs.Lines.{lines_in, without_mark}
use Rattle.board.specs.Levels.{AreLevelsOf}
use Rattle.board.proofs.collection.levels.Given as goal

abbrev pub invariant-loop-next : goal.invariant-loop-next
invariant-loop-next l = record {
  few : vec_len l.found ≤ 10000;
  so_far : (more : List (List (List ℕ))) → AreLevelsOf more (lines_in l.rest) → AreLevelsOf (l.found.items ++ more) (lines_in (without_mark l.fn.text));
}

abbrev pub decreases-loop-next : goal.decreases-loop-next
decreases-loop-next l = length l.rest
