use Rattle.std.proofs.Common.{◌<◌, ◌≤◌, ◌-◌, length}
use Rattle.cellset.specs.declared.cell.Cell.{Cell}
use Rattle.reach.specs.BitRows.{InRows}
use Rattle.reach.proofs.bit_rows.span.Given as goal

abbrev pub invariant-loop-end : goal.invariant-loop-end
invariant-loop-end g l = record {
  past : l.first ≤ l.end;
  within : l.end ≤ length l.rows;
  none : (c : Cell) → InRows l.rows c → c.row < l.end;
}

abbrev pub decreases-loop-end : goal.decreases-loop-end
decreases-loop-end g l = l.end - l.first

abbrev pub invariant-loop-end-2 : goal.invariant-loop-end-2
invariant-loop-end-2 g l = record {
  past : l.first ≤ l.end;
  within : l.end ≤ length l.rows;
  none : (c : Cell) → InRows l.rows c → c.row < l.end;
}

abbrev pub decreases-loop-end-2 : goal.decreases-loop-end-2
decreases-loop-end-2 g l = l.end - l.first
