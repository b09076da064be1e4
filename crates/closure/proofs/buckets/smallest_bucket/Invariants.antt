use Rattle.std.proofs.Common.{◌≡◌}
use Rattle.cellset.specs.{CellSet.Has, SortedList.index, declared.cell.Cell.Cell}
use Rattle.certificates.specs.CellLists.{cells_in}
use Rattle.closure.proofs.buckets.smallest_bucket.Given as goal

abbrev pub invariant-loop-cell : goal.invariant-loop-cell
invariant-loop-cell l = (c : Cell) × Has (cells_in l.boxes) c × (l.smallest ≡ index l.shape c)
