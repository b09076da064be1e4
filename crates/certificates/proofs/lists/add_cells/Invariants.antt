use Rattle.std.{proofs.Common.◌≡◌, proofs.Common.◌++◌, proofs.Common.take, specs.Prelude.map, specs.List.All}
use Rattle.cellset.specs.Cell.{IsOn}
use Rattle.certificates.specs.CellLists.{cell_of}
use Rattle.certificates.proofs.lists.add_cells.Given as goal

abbrev pub invariant-loop-at : goal.invariant-loop-at
invariant-loop-at l = record {
  same : l.cells.items ≡ l.fn.cells.items ++ map cell_of (take l.at-index l.coords);
  on : All (IsOn l.fn.shape) (map cell_of (take l.at-index l.coords));
}
