use Rattle.std.proofs.Common.{arith}
use Rattle.reach.proofs.Joins.{joining_more}
use Rattle.reach.proofs.fills.join.Goals as goal

pub loop-i-preserved : goal.loop-i-preserved
loop-i-preserved g c = joining_more c.args.free.now c.args.here.now c.args.row.now c.loop-i.row c.loop-i.i c.loop-i.grew (omega arith) c.loop-i.invariant
    (omega arith)
