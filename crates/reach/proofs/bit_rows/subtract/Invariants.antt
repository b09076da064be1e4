use Rattle.std.proofs.Common.{◌≡◌, length}
use Rattle.reach.specs.BitRows.{InRows}
use Rattle.reach.proofs.Loads.{AreDone}
use Rattle.reach.proofs.bit_rows.subtract.Given as goal

abbrev pub invariant-loop-y : goal.invariant-loop-y
invariant-loop-y g l = record {
  rows : length l.rows ≡ length l.fn.rows;
  cells : AreDone (λ c. InRows l.fn.rows c × (InRows l.other c → ⊥)) (InRows l.fn.rows) l.y l.rows;
}
