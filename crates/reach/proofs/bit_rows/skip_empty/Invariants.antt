use Rattle.std.proofs.Common.{◌≤◌, ◌-◌, length}
use Rattle.cellset.specs.declared.cell.Cell.{Cell}
use Rattle.reach.specs.BitRows.{InRows}
use Rattle.reach.proofs.bit_rows.skip_empty.Given as goal

abbrev pub invariant-loop-first : goal.invariant-loop-first
invariant-loop-first g l = record {
  within : l.first ≤ length l.rows;
  none : (c : Cell) → InRows l.rows c → l.first ≤ c.row;
}

abbrev pub decreases-loop-first : goal.decreases-loop-first
decreases-loop-first g l = length l.rows - l.first

abbrev pub invariant-loop-first-2 : goal.invariant-loop-first-2
invariant-loop-first-2 g l = record {
  within : l.first ≤ length l.rows;
  none : (c : Cell) → InRows l.rows c → l.first ≤ c.row;
}

abbrev pub decreases-loop-first-2 : goal.decreases-loop-first-2
decreases-loop-first-2 g l = length l.rows - l.first
