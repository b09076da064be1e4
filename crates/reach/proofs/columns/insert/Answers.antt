use Rattle.std.proofs.Common.{arith}
use Rattle.reach.proofs.Many.{added}
use Rattle.reach.proofs.columns.insert.Goals as goal

pub returns : goal.returns
returns g c = added c.args.row.now c.args.k (omega arith)
