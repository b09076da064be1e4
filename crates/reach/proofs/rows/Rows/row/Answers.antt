use Rattle.std.proofs.Common.{arith}
use Rattle.std.proofs.lemmas.List.{get_or_read}
use Rattle.reach.proofs.Sets.{contains_is}
use Rattle.reach.proofs.rows.Rows.row.Goals as goal

pub returns-in-Narrow : goal.returns-in-Narrow
returns-in-Narrow c = grind (arith, get_or_read, contains_is)

pub returns-in-Wide : goal.returns-in-Wide
returns-in-Wide c = grind (arith, get_or_read, contains_is)
