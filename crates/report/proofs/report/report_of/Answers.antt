use Rattle.std.proofs.Common.{arith}
use Rattle.std.proofs.lemmas.List.{take_all}
use Rattle.report.proofs.Reports.{line_added}
use Rattle.report.proofs.report.report_of.Goals as goal

pub loop-before-preserved : goal.loop-before-preserved
loop-before-preserved c = line_added c.args.statuses.now c.loop-before.before _ _ _ c.loop-before-test.true c.loop-before.invariant c.in_ok-push_line.ensures.ok

pub returns : goal.returns
returns c = grind (arith, take_all)
