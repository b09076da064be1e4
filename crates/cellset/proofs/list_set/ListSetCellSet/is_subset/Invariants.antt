use Rattle.std.proofs.Common.{◌≡◌, take}
use Rattle.std.specs.FinSet as set
use Rattle.cellset.specs.SortedList.{set_of}
use Rattle.cellset.proofs.list_set.ListSetCellSet.is_subset.Given as goal

abbrev pub invariant-loop-cell : goal.invariant-loop-cell
invariant-loop-cell l = l.is_subset ≡ set.is_subset (set_of (take l.cell-index l.cell-items)) l.other.members
