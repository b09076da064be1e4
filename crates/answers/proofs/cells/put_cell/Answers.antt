use Rattle.std.proofs.Common.{arith}
use Rattle.answers.proofs.CellBuffers.{put_from}
use Rattle.answers.proofs.cells.put_cell.Goals as goal

pub returns-clause-put : goal.returns-clause-put
returns-clause-put c = grind (arith, put_from)
