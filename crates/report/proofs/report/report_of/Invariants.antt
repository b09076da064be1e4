-- So far the text has the lines of the statuses before this one.
use Rattle.std.proofs.Common.{◌≡◌, take}
use Rattle.report.specs.Words.{lines_from}
use Rattle.report.proofs.report.report_of.Given as goal

abbrev pub invariant-loop-before : goal.invariant-loop-before
invariant-loop-before l = l.text.items ≡ lines_from 1 (take l.before l.statuses)
