use Rattle.std.proofs.Common.{arith}
use Rattle.cellset.proofs.ReadingOrder.{below_index}
use Rattle.certificates.proofs.CellLists.{in_list, no_cell}
use Rattle.closure.proofs.buckets.smallest_bucket.Goals as goal
use Rattle.closure.proofs.buckets.smallest_bucket.Goals.{then-sizes-at, else-sizes-at}

pub bounds-sizes-smallest : goal.bounds-sizes-smallest
bounds-sizes-smallest c = grind (arith, below_index)

pub loop-cell-preserved : goal.loop-cell-preserved
loop-cell-preserved c = grind (arith, then-sizes-at, in_list, no_cell, else-sizes-at)
