use Rattle.std.proofs.Common.{◌≡◌, ◌⊎◌, ℕ, ◌<◌, ◌≤◌, ◌-◌, length, slice_index_or}
use Rattle.std.specs.List.{Contains}
use Rattle.reach.specs.declared.pushes.Push.{Push}
use Rattle.cellset.specs.CellSet.{Has}
use Rattle.closure.proofs.unsettled.take_standing.Given as goal

abbrev pub invariant-loop-at : goal.invariant-loop-at
invariant-loop-at l = record {
  within : l.at ≤ length l.pushes.pushes;
  extent : l.pushes.extent ≡ l.fn.pushes.extent;
  kept : (push : Push) → Contains l.fn.pushes.pushes push → Contains l.pushes.pushes push ⊎ Has l.boxes.members push.from;
  only : (push : Push) → Contains l.pushes.pushes push → Contains l.fn.pushes.pushes push;
  fewer : length l.pushes.pushes ≤ length l.fn.pushes.pushes;
  none : (i : ℕ) (d : Push) → i < l.at → Has l.boxes.members (slice_index_or l.pushes.pushes i d).from → ⊥;
}

abbrev pub decreases-loop-at : goal.decreases-loop-at
decreases-loop-at l = length l.pushes.pushes - l.at
