use Rattle.cellset.proofs.Members.{same_members}
use Rattle.certificates.proofs.CellLists.{list_all}
use Rattle.closure.proofs.settling.load_rows.Goals as goal

pub returns-clause-members : goal.returns-clause-members
returns-clause-members c =
    let all = list_all c.args.cells.now c.loop-cell.cell-index c.loop-cell-test.false in
    same_members _ _ (λ q h. rw all at ((c.loop-cell.invariant.members q).0 h)) (λ q h. (c.loop-cell.invariant.members q).1 (rw all h))
