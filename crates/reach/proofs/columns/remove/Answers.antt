use Rattle.std.proofs.Common.{arith}
use Rattle.reach.proofs.Lines.{cleared}
use Rattle.reach.proofs.columns.remove.Goals as goal

pub returns : goal.returns
returns g c = grind (arith, cleared)
