use Rattle.sokoaudit_c.proofs.Judging.{many}
use Rattle.sokoaudit_c.proofs.judge.fault_of_record.Goals as goal

pub returns-in-Err-TooMany : goal.returns-in-Err-TooMany
returns-in-Err-TooMany c = λ kind body line why first. (first.0, many c.args.level.now (c.in-Err-TooMany.ensures.too_many c.in-Err-TooMany.field-0-is))
