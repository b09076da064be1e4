use Rattle.closure.specs.{GroupPushes.pushed_cell, Groups.list_of, Groups.position_at}
use Rattle.closure.proofs.GroupPushes.{covered_each_way}
use Rattle.closure.proofs.pushes.is_hinted_each_way.Goals as goal

pub returns : goal.returns
returns g c = λ down.
    let level = c.args.tables.now.board.now in
    let groups = c.args.tables.now.groups in
    covered_each_way level (list_of groups) (position_at level groups c.args.pushed.now.group) (pushed_cell c.args.pushed.now)
    (c.is_hinted_toward.ensures c.if-not-is_hinted_toward.false) (c.is_hinted_toward-2.ensures c.if-not-is_hinted_toward-2.false)
    (c.is_hinted_toward-3.ensures c.if-not-is_hinted_toward-3.false) (c.is_hinted_toward-4.ensures down)
