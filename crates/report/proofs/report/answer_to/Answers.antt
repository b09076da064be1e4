-- There are three ways out. If no record is left, none answers a level. If the next record is of another level, the level is a later
-- one, because the numbers rise. So no record answers this level, and the same records are left for the later ones. If the next record is
-- of this level, it is the answer, and it answers no later level. So the records after it have the answers of the later levels.
use Rattle.std.proofs.Common.{ℕ, ◌≤◌, arith}
use Rattle.report.proofs.Reports.{next_record, answered, passed, unanswered, rise_on}
use Rattle.report.proofs.report.answer_to.Goals as goal

at_most : (n : ℕ) → n ≤ n
at_most n = omega arith

pub returns-then-level-before-clause-answer : goal.returns-then-level-before-clause-answer
returns-then-level-before-clause-answer c = grind (arith, next_record, rise_on, unanswered, at_most)

pub returns-then-level-before-clause-rise : goal.returns-then-level-before-clause-rise
returns-then-level-before-clause-rise c = grind (arith, next_record, rise_on)

pub returns-clause-answer : goal.returns-clause-answer
returns-clause-answer c = grind (arith, next_record, answered)

pub returns-clause-rise : goal.returns-clause-rise
returns-clause-rise c = grind (arith, next_record)

pub returns-clause-rest : goal.returns-clause-rest
returns-clause-rest c = grind (arith, next_record, passed)
