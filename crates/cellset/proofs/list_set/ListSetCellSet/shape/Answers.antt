use Rattle.cellset.proofs.SortedCells.{members_on}
use Rattle.cellset.proofs.list_set.ListSetCellSet.shape.Goals as goal

pub returns-clause-on : goal.returns-clause-on
returns-clause-on c = rw (← c.self.view_is) (λ q h. members_on _ _ _ q c.self.invariant h)
