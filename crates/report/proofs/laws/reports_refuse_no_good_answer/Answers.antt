use Rattle.report.proofs.OneReport.{said_in}
use Rattle.report.proofs.laws.reports_refuse_no_good_answer.Goals as goal

pub returns-clause-solution : goal.returns-clause-solution
returns-clause-solution c = λ lt at text summary report before rows level lines tally status line is solves.
    c.good_answers_are_never_refused.ensures.solution rows level lines tally status is solves (said_in report before rows _ status line)

pub returns-clause-list : goal.returns-clause-list
returns-clause-list c = λ lt at text summary report before rows level patterns status line is list.
    c.good_answers_are_never_refused.ensures.list rows level patterns status is list (said_in report before rows _ status line)

pub returns-clause-zone : goal.returns-clause-zone
returns-clause-zone c = λ lt at text summary report before rows level zone status line is refutes.
    c.good_answers_are_never_refused.ensures.zone rows level zone status is refutes (said_in report before rows _ status line)
