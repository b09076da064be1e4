use Rattle.cellset.proofs.SortedCells.{searched}
use Rattle.cellset.proofs.list_set.find.Goals as goal

pub returns : goal.returns
returns c = searched c.args.cells.now c.args.cell c.binary_search.result c.requires c.binary_search.ensures.bound c.binary_search.ensures.position
