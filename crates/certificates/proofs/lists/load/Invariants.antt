use Rattle.std.proofs.Common.{◌≡◌, take}
use Rattle.certificates.specs.CellLists.{cells_in}
use Rattle.certificates.proofs.lists.load.Given as goal

abbrev pub invariant-loop-cell : goal.invariant-loop-cell
invariant-loop-cell g l = record {
  extent : g.S.CellSet.extent l.set ≡ g.S.CellSet.extent l.fn.set;
  members : g.S.CellSet.members l.set ≡ cells_in (take l.cell-index l.cells);
}
