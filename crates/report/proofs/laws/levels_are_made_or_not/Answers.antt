use Rattle.report.proofs.OneMade.{made_or_not}
use Rattle.report.proofs.laws.levels_are_made_or_not.Goals as goal

pub returns : goal.returns
returns c = made_or_not c.rows_have_one_board.ensures.same c.rows_have_one_board.ensures.refused
