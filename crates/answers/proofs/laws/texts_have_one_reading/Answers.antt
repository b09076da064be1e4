use Rattle.answers.proofs.Outcome.{one_fault, one_spelling, spelled_not_refused}
use Rattle.answers.proofs.laws.texts_have_one_reading.Goals as goal

pub returns-clause-same : goal.returns-clause-same
returns-clause-same c = one_spelling

pub returns-clause-refused : goal.returns-clause-refused
returns-clause-refused c = spelled_not_refused

pub returns-clause-fault : goal.returns-clause-fault
returns-clause-fault c = one_fault
