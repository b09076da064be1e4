use Rattle.std.proofs.Common.{arith}
use Rattle.reach.proofs.Sets.{has_is, none_empty}
use Rattle.reach.proofs.rows.Rows.is_empty.Goals as goal

pub returns-in-Narrow : goal.returns-in-Narrow
returns-in-Narrow c = grind (arith, has_is, none_empty)

pub returns-in-Wide : goal.returns-in-Wide
returns-in-Wide c = grind (arith, has_is, none_empty)
