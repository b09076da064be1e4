use Rattle.std.proofs.Common.{◌≡◌, ◌*◌, ◌≤◌}
use Rattle.cellset.specs.CellSet.{Has}
use Rattle.cellset.specs.declared.cell.Cell.{Cell}
use Rattle.maker.proofs.zones.search.common_cell_of_row.Given as goal

abbrev pub invariant-loop-part : goal.invariant-loop-part
invariant-loop-part l = record {
  passed : (c : Cell) → Has l.cells.members c → Has l.others.members c → c.row ≡ l.row → 64 * l.part ≤ c.column;
}
