use Rattle.report.proofs.OneMade.{one_map}
use Rattle.report.proofs.laws.levels_have_one_map.Goals as goal

pub returns : goal.returns
returns c = one_map c.rows_have_one_board.ensures.same c.lines_have_one_list_of_levels.ensures
