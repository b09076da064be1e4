use Rattle.std.proofs.Common.{arith}
use Rattle.reach.proofs.Sets.{has_is}
use Rattle.reach.proofs.rows.Rows.span.Goals as goal

pub returns-in-Narrow : goal.returns-in-Narrow
returns-in-Narrow c = grind (arith, has_is)

pub returns-in-Wide : goal.returns-in-Wide
returns-in-Wide c = grind (arith, has_is)
