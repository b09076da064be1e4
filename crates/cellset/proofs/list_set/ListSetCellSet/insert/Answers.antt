-- The vector has room for all cells of the grid, and a list that lacks one of them is shorter than that, so the insertion can't fail.
use Rattle.std.proofs.Common.{◌≡◌, ◌∷◌, ◌++◌, take, drop, ap, arith, rules}
use Rattle.cellset.proofs.SortedCells.{insert_sorted, gap_room, found_has, gap_lacks, insert_members}
use Rattle.cellset.proofs.Members.{insert_again}
use Rattle.cellset.proofs.list_set.ListSetCellSet.insert.Goals as goal

pub unreachable-requires : goal.unreachable-requires
unreachable-requires c =
    let gap = rw c.deref.ensures.value at c.in-Err.ensures in
    let on = rw (← (ap (λ v. v.extent) c.self.view_is)) at c.requires in
    let room = gap_room c.self.inside.shape c.self.inside.cells.items _ c.args.cell c.in-Err.at c.self.invariant gap on in
    let same_len = c.self.inside.cells.ok.0 in
    let ok = c.insert.ensures.succeeds (omega arith) in
    let failed = c.if-is_err.ensures.negation in
    search rules

new_items : (c : goal.Else-is_err)
    → c.insert.new.self.items ≡ take c.in-Err.at c.self.inside.cells.items ++ c.args.cell ∷ drop c.in-Err.at c.self.inside.cells.items
new_items c = search (rules)

pub invariant_of-self : goal.invariant_of-self
invariant_of-self c =
    let gap = rw c.deref.ensures.value at c.in-Err.ensures in
    let on = rw (← (ap (λ v. v.extent) c.self.view_is)) at c.requires in
    rw (new_items c) (insert_sorted c.self.inside.shape c.self.inside.cells.items _ _ c.args.cell c.in-Err.at c.self.invariant gap on c.insert.ensures.capacity)

pub returns-in_default-clause-members : goal.returns-in_default-clause-members
returns-in_default-clause-members c = grind (arith, found_has, insert_again)

pub returns-in_default-clause-was_new : goal.returns-in_default-clause-was_new
returns-in_default-clause-was_new c = grind (arith, found_has)

pub returns-clause-members : goal.returns-clause-members
returns-clause-members c = grind (arith, new_items, insert_members)

pub returns-clause-was_new : goal.returns-clause-was_new
returns-clause-was_new c = grind (arith, gap_lacks)
