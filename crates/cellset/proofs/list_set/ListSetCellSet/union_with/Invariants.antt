use Rattle.std.proofs.Common.{◌≡◌, take}
use Rattle.std.specs.FinSet as set
use Rattle.cellset.specs.SortedList.{set_of}
use Rattle.cellset.proofs.list_set.ListSetCellSet.union_with.Given as goal

abbrev pub invariant-loop-cell : goal.invariant-loop-cell
invariant-loop-cell l = record {
  extent : l.self.extent ≡ l.fn.self.extent;
  members : l.self.members ≡ set.union l.fn.self.members (set_of (take l.cell-index l.cell-items));
}
