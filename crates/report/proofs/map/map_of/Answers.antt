use Rattle.std.proofs.lemmas.Result.{IfOk-weaker}
use Rattle.report.proofs.map.map_of.Goals as goal

pub returns : goal.returns
returns g c = IfOk-weaker c.rows_with.result _ _ (λ text is. (g.S.CellSet.members c.in_ok-dead.dead, c.in_ok-dead.ensures.exact, is)) c.rows_with.ensures
