use Rattle.std.proofs.Common.{arith}
use Rattle.std.proofs.Math.ListN.{length-set}
use Rattle.reach.proofs.Loads.{done_more, done_all}
use Rattle.reach.proofs.bit_rows.load.Goals as goal

pub loop-y-preserved : goal.loop-y-preserved
loop-y-preserved g c = grind (arith, length-set, done_more)

pub returns-clause-cells : goal.returns-clause-cells
returns-clause-cells g c = grind (arith, done_all)
