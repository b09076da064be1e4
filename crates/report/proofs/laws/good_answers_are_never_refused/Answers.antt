use Rattle.report.specs.Status.{solved, closed, refuting}
use Rattle.report.proofs.laws.good_answers_are_never_refused.Goals as goal

pub returns-clause-solution : goal.returns-clause-solution
returns-clause-solution c = λ rows level lines tally status is solves says. c.levels_have_one_status.ensures rows _ status _ says (solved is solves)

pub returns-clause-list : goal.returns-clause-list
returns-clause-list c = λ rows level patterns status is list says. c.levels_have_one_status.ensures rows _ status _ says (closed is list)

pub returns-clause-zone : goal.returns-clause-zone
returns-clause-zone c = λ rows level zone status is refutes says. c.levels_have_one_status.ensures rows _ status _ says (refuting is refutes)
