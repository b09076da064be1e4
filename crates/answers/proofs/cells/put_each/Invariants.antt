-- The cells from one on are in the buffer, which has room for the texts of those before it.
use Rattle.std.proofs.Common.{◌≡◌, ◌+◌, ◌-◌, ◌*◌, ◌≤◌, length, drop}
use Rattle.std.specs.List.{flat_map}
use Rattle.answers.specs.CellTexts.{IsTail, between}
use Rattle.answers.proofs.cells.put_each.Given as goal

abbrev pub invariant-loop-left : goal.invariant-loop-left
invariant-loop-left l = record {
  left : l.left ≤ length l.cells;
  room : 768 ≤ l.at + 24 * (length l.cells - l.left);
  within : l.at ≤ 768;
  long : length l.text ≡ 768;
  tail : IsTail l.after l.tail;
  put : drop l.at l.text ≡ flat_map (between l.before l.after) (drop l.left l.cells);
}

abbrev pub decreases-loop-left : goal.decreases-loop-left
decreases-loop-left l = l.left
