use Rattle.cellset.proofs.MemberLists.{all_left}
use Rattle.cellset.proofs.members_of.MembersOf.new.Goals as goal

pub returns : goal.returns
returns g c =
    let shape = g.S.CellSet.extent c.args.set.now in
    let start = rw c.shape.ensures.value at c.cell-from.ensures in
    all_left shape (g.S.CellSet.members c.args.set.now) c.cell-from.result c.shape.ensures.on start
