use Rattle.std.proofs.Common.{arith}
use Rattle.cellset.specs.Cell.{cell_at}
use Rattle.reach.proofs.Loads.{none_past}
use Rattle.reach.proofs.Lines.{none_in_zeros}
use Rattle.reach.proofs.columns.row_at.Goals as goal

pub returns-else-y-rows : goal.returns-else-y-rows
returns-else-y-rows g c = λ k. (λ h. absurd (none_in_zeros g.row.N k h), λ h. absurd (none_past c.args.rows.now (cell_at k c.args.y) (omega arith) h))
