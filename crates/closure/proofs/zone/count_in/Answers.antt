use Rattle.std.proofs.Common.{arith}
use Rattle.certificates.proofs.Counts.{len_union, len_union_right}
use Rattle.closure.proofs.zone.count_in.Goals as goal

pub overflow_sub-result : goal.overflow_sub-result
overflow_sub-result g c = grind (arith, len_union_right)

pub overflow_sub-result-2 : goal.overflow_sub-result-2
overflow_sub-result-2 g c = grind (arith, len_union)

pub returns-clause-value : goal.returns-clause-value
returns-clause-value g c = grind (arith, len_union, len_union_right)
