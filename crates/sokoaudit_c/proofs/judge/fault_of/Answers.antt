use Rattle.sokoaudit_c.specs.Judged.{answers_around}
use Rattle.sokoaudit_c.proofs.Judging.{error_of, many_by, not_answers, not_many}
use Rattle.sokoaudit_c.proofs.judge.fault_of.Goals as goal

pub returns-in-TooManyLevels : goal.returns-in-TooManyLevels
returns-in-TooManyLevels c = λ kind body due.
    many_by c.args.level.now (answers_around kind body) (error_of c.args.level.now (answers_around kind body) c.args.error _ c.in-TooManyLevels.is not_many due)

pub returns-in-Answers : goal.returns-in-Answers
returns-in-Answers c = λ kind body due.
    c.fault_of_record.ensures kind body c.in-Answers.line c.in-Answers.why
    (error_of c.args.level.now (answers_around kind body) c.args.error _ c.in-Answers.is (not_answers c.in-Answers.line c.in-Answers.why) due)
