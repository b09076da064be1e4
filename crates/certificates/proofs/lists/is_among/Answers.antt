use Rattle.certificates.proofs.CellLists.{in_list, no_cell}
use Rattle.certificates.proofs.lists.is_among.Goals as goal

pub returns-in-Some : goal.returns-in-Some
returns-in-Some g c = rw c.in-Some.ensures.1 at (in_list c.args.cells.now c.in-Some.field-0 no_cell c.in-Some.ensures.0)
