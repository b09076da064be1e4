use Rattle.cellset.specs.Shape.{Extent}
use Rattle.reach.specs.Grown.{IsAllOn}
use Rattle.reach.specs.Grown.{in_rows}
use Rattle.std.proofs.Common.{◌≡◌, ℕ, ◌<◌, length}
use Rattle.reach.specs.Bits.{HasBit}
use Rattle.reach.specs.BitRows.{InRows, work_left}
use Rattle.reach.proofs.Chains.{IsGrowing}
use Rattle.reach.proofs.grow.grow_by.Given as goal

abbrev pub invariant-loop-row : goal.invariant-loop-row
invariant-loop-row g l = record {
  growing : IsGrowing (g.T.StepKind.leads (in_rows l.free)) (InRows l.fn.region) (InRows l.region) (HasBit l.waiting.words);
  within : (k : ℕ) → HasBit l.waiting.words k → k < length l.free;
  on : (shape : Extent) → IsAllOn shape (InRows l.free) → IsAllOn shape (InRows l.fn.region) → IsAllOn shape (InRows l.region);
  rows : length l.region ≡ length l.free;
}

abbrev pub decreases-loop-row : goal.decreases-loop-row
decreases-loop-row g l = work_left l.region l.waiting.words
