use Rattle.std.proofs.Common.{take}
use Rattle.cellset.specs.{CellSet.Has, declared.cell.Cell.Cell}
use Rattle.certificates.specs.CellLists.{cells_in}
use Rattle.certificates.proofs.lists.are_in.Given as goal

abbrev pub invariant-loop-cell : goal.invariant-loop-cell
invariant-loop-cell g l = (c : Cell) → Has (cells_in (take l.cell-index l.cells)) c → Has (g.S.CellSet.members l.set) c
