use Rattle.std.proofs.Common.{arith}
use Rattle.std.proofs.lemmas.Grind.{common_steps}
use Rattle.answers.proofs.pattern_line.take_cell.Goals as goal

pub returns : goal.returns
returns c = grind (arith, common_steps)
