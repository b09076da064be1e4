use Rattle.program.proofs.Errors.{nothing}
use Rattle.program.proofs.laws.errors_print_nothing.Goals as goal

pub returns : goal.returns
returns c = nothing c.texts_have_one_report.ensures.no_error c.lines_have_one_list_of_levels.ensures c.rows_have_one_board.ensures.refused
