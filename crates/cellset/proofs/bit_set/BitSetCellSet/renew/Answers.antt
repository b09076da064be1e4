use Rattle.std.proofs.Common.{arith}
use Rattle.cellset.proofs.BitSets.{empty_members}
use Rattle.cellset.proofs.WordLoops.{none_in_zeros}
use Rattle.cellset.proofs.bit_set.BitSetCellSet.renew.Goals as goal

pub returns-clause-empty : goal.returns-clause-empty
returns-clause-empty c = grind (arith, empty_members, none_in_zeros)

pub invariant_of-self : goal.invariant_of-self
invariant_of-self c = rw c.in_err-resize.ensures.items c.self.invariant

pub invariant_of-self-2 : goal.invariant_of-self-2
invariant_of-self-2 c = grind (arith, none_in_zeros)
