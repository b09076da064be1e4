use Rattle.std.proofs.Common.{arith}
use Rattle.std.proofs.lemmas.Grind.{common_steps}
use Rattle.answers.proofs.body.certificate.Goals as goal

pub loop-patterns-preserved : goal.loop-patterns-preserved
loop-patterns-preserved c = grind (arith, common_steps)

pub returns-in-End : goal.returns-in-End
returns-in-End c = grind (arith, common_steps)

pub returns-in-Zone : goal.returns-in-Zone
returns-in-Zone c = grind (arith, common_steps)

pub returns-in-BadLine : goal.returns-in-BadLine
returns-in-BadLine c = grind (arith, common_steps)
