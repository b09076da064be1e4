use Rattle.std.proofs.Common.{take}
use Rattle.cellset.specs.{CellSet.Has, CellSet.Lacks, declared.cell.Cell.Cell}
use Rattle.certificates.specs.CellLists.{cells_in}
use Rattle.certificates.proofs.lists.are_outside.Given as goal

abbrev pub invariant-loop-cell : goal.invariant-loop-cell
invariant-loop-cell g l = (c : Cell) → Has (cells_in (take l.cell-index l.cells)) c → Lacks (g.S.CellSet.members l.set) c
