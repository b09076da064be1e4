-- When there is no report.
--   order of work   the levels text is read, then the answers text, then the levels are found, then the records are
--                   read, then each level is judged, then the report is written; the first error ends the call
use Rattle.std.specs.Prelude.{ℕ, ◌<◌, ◌≤◌, length, List, Result, Err}
use Rattle.board.specs.Lines.{lines_in, without_mark}
use Rattle.board.specs.Levels.{AreLevelsOf, most_levels}
use Rattle.answers.specs.FirstFault.{IsFirstAnswersFault}
use Rattle.answers.specs.declared.fault.AnswersFault.{AnswersFault}
use Rattle.answers.specs.declared.fault.AnswersFault.TheVariants as answers_fault
use Rattle.report.specs.Collection.{HasTooManyLevels, Count, Stays, Rises}
use Rattle.report.specs.Report.{AreShort, IsReport}
use Rattle.report.specs.declared.summary.Summary.{Summary}
use Rattle.devices.specs.Reading.{most_bytes}
use Rattle.report.specs.declared.fault.Which.TheVariants as which
use Rattle.answers.specs.declared.fault.Why.{Why}
use Rattle.answers.specs.declared.fault.Why.TheVariants as why
use Rattle.report.specs.declared.fault.AuditError.{AuditError}
use Rattle.report.specs.declared.fault.AuditError.TheVariants.{Read, Write, TooLong, TooManyLevels, Answers, Memory}

-- a fault of the answers text is the fault that the grammar finds, with its line
abbrev pub answers_fault_of : ℕ → Why → AnswersFault
answers_fault_of line why.Header = answers_fault.Header line
answers_fault_of line why.Level = answers_fault.Level line
answers_fault_of line why.Order = answers_fault.Order line
answers_fault_of line why.Unknown = answers_fault.Unknown line
answers_fault_of line why.Kind = answers_fault.Kind line
answers_fault_of line why.Unclosed = answers_fault.Unclosed line

-- an audit whose answers text has this fault has this error
abbrev pub error_of : AnswersFault → AuditError
error_of (answers_fault.Header line) = Answers line why.Header
error_of (answers_fault.Level line) = Answers line why.Level
error_of (answers_fault.Order line) = Answers line why.Order
error_of (answers_fault.Unknown line) = Answers line why.Unknown
error_of (answers_fault.Kind line) = Answers line why.Kind
error_of (answers_fault.Unclosed line) = Answers line why.Unclosed
error_of answers_fault.Memory = Memory

-- the error is one of two texts that were read: there are too many levels, or otherwise the answers have a fault
abbrev pub IsTextError : List ℕ → List ℕ → AuditError → Type 0
IsTextError levels_text answers_text TooManyLevels = HasTooManyLevels levels_text
IsTextError levels_text answers_text (Answers line why) =
    (levels : List (List (List ℕ))) × AreLevelsOf levels (lines_in (without_mark levels_text)) × (length levels ≤ most_levels)
    × IsFirstAnswersFault answers_text (length levels) (answers_fault_of line why)
IsTextError levels_text answers_text _ = ⊥

-- the error is the first one of two texts: one is too long, the levels before the answers, or both are short and have an error
abbrev pub IsFirstError : List ℕ → List ℕ → AuditError → Type 0
IsFirstError levels_text answers_text (TooLong which.Levels) = most_bytes < length levels_text
IsFirstError levels_text answers_text (TooLong which.Answers) = (length levels_text ≤ most_bytes) × (most_bytes < length answers_text)
IsFirstError levels_text answers_text error = AreShort levels_text answers_text × IsTextError levels_text answers_text error

-- the text is a report on two texts
abbrev pub IsReportText : List ℕ → List ℕ → List ℕ → Type 0
IsReportText levels_text answers_text text = (summary : Summary) × IsReport levels_text answers_text text summary

-- the error comes at its place in the order of work: no error of the two texts comes before it
abbrev pub IsDue : List ℕ → List ℕ → AuditError → Type 0
IsDue levels_text answers_text (Read which.Levels) = Unit {0}
IsDue levels_text answers_text (Read which.Answers) = length levels_text ≤ most_bytes
IsDue levels_text answers_text Write = (text : List ℕ) × IsReportText levels_text answers_text text
IsDue levels_text answers_text Memory = Unit {0}
IsDue levels_text answers_text error = IsFirstError levels_text answers_text error

-- the call counts one failure of the device that failed, and none of the others
abbrev pub CountsAudit : {A : Type 0} → Count → Count → Count → Result A AuditError → Type 0
CountsAudit levels answers report (Err (Read which.Levels)) = Rises levels × Stays answers × Stays report
CountsAudit levels answers report (Err (Read which.Answers)) = Stays levels × Rises answers × Stays report
CountsAudit levels answers report (Err Write) = Stays levels × Stays answers × Rises report
CountsAudit levels answers report _ = Stays levels × Stays answers × Stays report
