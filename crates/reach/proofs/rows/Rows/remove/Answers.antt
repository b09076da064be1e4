use Rattle.std.proofs.Common.{arith}
use Rattle.cellset.proofs.Members.{lacks_where, not_both}
use Rattle.reach.proofs.Written.{one_bit}
use Rattle.reach.proofs.rows.Rows.remove.Goals as goal

pub returns-clause-members : goal.returns-clause-members
returns-clause-members c = grind (arith, one_bit, lacks_where, not_both)
