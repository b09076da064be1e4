-- Why statuses of two texts are a report of them.
-- A report is the statuses of its texts, their words and their numbers. Its lines are true because what each status means is.
use Rattle.std.proofs.Common.{◌≡◌, ℕ, List}
use Rattle.report.specs.Report.{AreStatuses, IsReport}
use Rattle.report.specs.Summary.{summary_of}
use Rattle.report.specs.Words.{report_text}
use Rattle.report.specs.declared.status.Status.{Status}
use Rattle.report.specs.declared.summary.Summary.{Summary}
use Rattle.report.proofs.PrintedLines.{true_lines}

-- the statuses of two texts, in words, are their report
pub report_by : (lt at : List ℕ) (statuses : List Status) (text : List ℕ) (summary : Summary) → AreStatuses lt at statuses
    → text ≡ report_text statuses → summary ≡ summary_of statuses → IsReport lt at text summary
report_by lt at statuses text summary are words numbers =
    record { statuses = statuses; are = are; text_is = words; lines = true_lines are.levels are.entries statuses are.mean text words; summary_is = numbers }
