use Rattle.reach.proofs.Pushing.{slid_added, slid_settled}
use Rattle.reach.proofs.columns.slide.Goals as goal

pub returns-clause-added : goal.returns-clause-added
returns-clause-added g c =
    slid_added g.row.N c.args.free.now c.args.row.now c.between-mids.result c.fill.new.row c.later-right.result c.earlier-left.result c.join.new.row
    c.join-2.new.row
    c.told-free c.between-mids.ensures c.fill.ensures.filled c.later-right.ensures c.earlier-left.ensures c.join.ensures.bits c.join-2.ensures.bits

pub returns-clause-closed : goal.returns-clause-closed
returns-clause-closed g c =
    slid_settled g.row.N c.args.free.now c.args.row.now c.between-mids.result c.fill.new.row c.later-right.result c.earlier-left.result c.join.new.row
    c.join-2.new.row
    c.told-free c.between-mids.ensures c.fill.ensures.filled c.later-right.ensures c.earlier-left.ensures c.join.ensures.bits c.join-2.ensures.bits
