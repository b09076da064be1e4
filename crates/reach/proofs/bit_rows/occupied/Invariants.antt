use Rattle.std.proofs.Common.{ℕ, ◌<◌}
use Rattle.cellset.specs.declared.cell.Cell.{Cell}
use Rattle.reach.specs.Bits.{HasBit}
use Rattle.reach.specs.BitRows.{InRows}
use Rattle.reach.proofs.bit_rows.occupied.Given as goal

abbrev pub invariant-loop-y : goal.invariant-loop-y
invariant-loop-y g l = record {
  all : (c : Cell) → c.row < l.y → InRows l.rows c → HasBit l.waiting.words c.row;
  within : (k : ℕ) → HasBit l.waiting.words k → k < l.y;
}
