use Rattle.std.proofs.Common.{◌<◌}
use Rattle.cellset.specs.declared.cell.Cell.{Cell}
use Rattle.reach.specs.Bits.{HasBit}
use Rattle.reach.specs.BitRows.{InRows}
use Rattle.reach.proofs.bit_rows.have_column.Given as goal

abbrev pub invariant-loop-y : goal.invariant-loop-y
invariant-loop-y g l = (c : Cell) → c.row < l.y → InRows l.rows c → HasBit l.columns c.column → ⊥
