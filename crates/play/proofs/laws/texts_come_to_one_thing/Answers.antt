use Rattle.play.proofs.Verdicts.{solves_one, fault_one, no_fault}
use Rattle.play.proofs.laws.texts_come_to_one_thing.Goals as goal

pub returns-clause-none : goal.returns-clause-none
returns-clause-none c = λ level text tally fault solves first. no_fault level fault solves first

pub returns-clause-tally : goal.returns-clause-tally
returns-clause-tally c = solves_one

pub returns-clause-fault : goal.returns-clause-fault
returns-clause-fault c = fault_one
