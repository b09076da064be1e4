use Rattle.std.{proofs.Common.◌≡◌, proofs.Common.take, specs.Prelude.◌↔◌}
use Rattle.cellset.specs.{CellSet.Has, declared.cell.Cell.Cell}
use Rattle.certificates.specs.CellLists.{cells_in}
use Rattle.closure.proofs.settling.load_rows.Given as goal

abbrev pub invariant-loop-cell : goal.invariant-loop-cell
invariant-loop-cell l = record {
  extent : l.rows.extent ≡ l.fn.rows.extent;
  members : (c : Cell) → Has l.rows.members c ↔ Has (cells_in (take l.cell-index l.cells)) c;
}
