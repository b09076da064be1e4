use Rattle.std.proofs.Common.{take}
use Rattle.cellset.specs.CellSet.{Lacks}
use Rattle.certificates.specs.CellLists.{cells_in}
use Rattle.certificates.proofs.lists.number_of.Given as goal

abbrev pub invariant-loop-number : goal.invariant-loop-number
invariant-loop-number l = Lacks (cells_in (take l.number l.cells)) l.fn.cell
