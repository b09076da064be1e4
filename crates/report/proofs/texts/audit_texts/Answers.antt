use Rattle.std.proofs.Common.{arith}
use Rattle.report.proofs.Reports.{each_long}
use Rattle.report.proofs.Statuses.{report_by}
use Rattle.report.proofs.texts.audit_texts.Goals as goal

pub report_of-requires-clause-few : goal.report_of-requires-clause-few
report_of-requires-clause-few c = grind (arith, each_long)

pub returns-in-Ok-clause-ok : goal.returns-in-Ok-clause-ok
returns-in-Ok-clause-ok c = grind (arith, report_by)
