use Rattle.report.proofs.OneMadeText.{one_made_text}
use Rattle.report.proofs.laws.collections_have_one_made_text.Goals as goal

pub returns : goal.returns
returns c = one_made_text c.rows_have_one_board.ensures.same c.rows_have_one_board.ensures.refused c.least_zones_are_one.ensures
    c.lines_have_one_list_of_levels.ensures
