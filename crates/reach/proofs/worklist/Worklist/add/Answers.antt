use Rattle.std.proofs.Common.{arith}
use Rattle.reach.proofs.Many.{added, weight_set, with_bit_fits}
use Rattle.reach.proofs.worklist.Worklist.add.Goals as goal

pub returns-clause-added : goal.returns-clause-added
returns-clause-added g c = grind (arith, added)

pub returns-clause-weight : goal.returns-clause-weight
returns-clause-weight g c = grind (arith, weight_set, with_bit_fits)
