use Rattle.cellset.proofs.SortedCells.{remove_sorted, found_has, gap_lacks, remove_members}
use Rattle.std.proofs.Common.{arith}
use Rattle.cellset.proofs.Members.{remove_absent}
use Rattle.cellset.proofs.list_set.ListSetCellSet.remove.Goals as goal

pub invariant_of-self : goal.invariant_of-self
invariant_of-self c =
    let found = rw c.deref.ensures.value at c.in-Ok.ensures in
    rw (c.remove.ensures.items, c.remove.ensures.capacity)
    (remove_sorted c.self.inside.shape c.self.inside.cells.items _ c.args.cell c.in-Ok.at c.self.invariant found)

pub returns-in_default-clause-members : goal.returns-in_default-clause-members
returns-in_default-clause-members c = grind (arith, gap_lacks, remove_absent)

pub returns-in_default-clause-was_there : goal.returns-in_default-clause-was_there
returns-in_default-clause-was_there c = grind (arith, gap_lacks)

pub returns-clause-members : goal.returns-clause-members
returns-clause-members c = grind (arith, remove_members)

pub returns-clause-was_there : goal.returns-clause-was_there
returns-clause-was_there c = grind (arith, found_has)
