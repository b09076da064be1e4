use Rattle.std.proofs.Common.{◌≡◌, ◌*◌, ◌<◌, length}
use Rattle.cellset.specs.CellSet.{Has}
use Rattle.reach.specs.BitRows.{InRows}
use Rattle.reach.proofs.Loads.{AreDone}
use Rattle.reach.proofs.bit_rows.load.Given as goal

abbrev pub invariant-loop-y : goal.invariant-loop-y
invariant-loop-y g l = record {
  rows : length l.rows ≡ length l.fn.rows;
  cells : AreDone (λ c. (c.row < length l.fn.rows) × (c.column < 64 * g.row.N) × Has (g.S.CellSet.members l.cells) c) (InRows l.fn.rows) l.y l.rows;
}
