use Rattle.report.proofs.Errors.{one_error}
use Rattle.report.proofs.OneReport.{one_report, no_error}
use Rattle.report.proofs.laws.texts_have_one_report.Goals as goal

pub returns-clause-same : goal.returns-clause-same
returns-clause-same c = one_report c.levels_have_one_status.ensures c.lines_have_one_list_of_levels.ensures c.texts_have_one_reading.ensures.same
    c.texts_have_one_reading.ensures.refused

pub returns-clause-no_error : goal.returns-clause-no_error
returns-clause-no_error c = no_error c.levels_have_one_status.ensures c.lines_have_one_list_of_levels.ensures c.texts_have_one_reading.ensures.same
    c.texts_have_one_reading.ensures.refused

pub returns-clause-error : goal.returns-clause-error
returns-clause-error c = one_error c.lines_have_one_list_of_levels.ensures c.texts_have_one_reading.ensures.fault
