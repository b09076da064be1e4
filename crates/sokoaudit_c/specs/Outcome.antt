-- What a call of the library leaves in the memory that C lends.
--   holds     the buffer begins with the text, or with as much of it as there is space for; the rest is unchanged
--   outcome   the nine numbers of a report, of made answers, of a map or of an error; a number that
--             means nothing there is 0
use Rattle.std.specs.Prelude.{ℕ, ◌≡◌, ◌++◌, List, length, take, drop}
use Rattle.board.specs.declared.reading.BoardFault.{BoardFault}
use Rattle.board.specs.declared.reading.BoardFault.TheVariants as board_fault
use Rattle.report.specs.declared.fault.AuditError.TheVariants.{TooLong, TooManyLevels, Answers}
use Rattle.report.specs.declared.fault.DeadError.{DeadError}
use Rattle.report.specs.declared.fault.DeadError.TheVariants.{Audit, NoLevel, Board}
use Rattle.report.specs.declared.fault.Which.TheVariants as which
use Rattle.answers.specs.declared.fault.Why.{Why}
use Rattle.answers.specs.declared.fault.Why.TheVariants as why
use Rattle.report.specs.declared.summary.Summary.{Summary}
use Rattle.sokoaudit_c.specs.declared.outcome.Outcome.{Outcome}

-- the buffer begins with the text, or with as much of it as there is space for; a buffer has bytes or entries
abbrev pub Holds : {A : Type 0} → List A → List A → List A → Type 0
Holds old new text = new ≡ take (length old) text ++ drop (length text) old

-- no number of this outcome means anything
abbrev pub no_numbers : Outcome
no_numbers = record { bytes = 0; levels = 0; solved = 0; unsolvable = 0; refused = 0; missing = 0; records = 0; fault = 0; line = 0 }

-- a report of this many bytes has the outcome with the numbers of its last line
abbrev pub outcome_of_report : ℕ → Summary → Outcome
outcome_of_report bytes summary = record no_numbers {
  bytes = bytes;
  levels = summary.levels;
  solved = summary.solved;
  unsolvable = summary.unsolvable;
  refused = summary.refused;
  missing = summary.missing;
}

-- made answers of this many bytes and records have this outcome
abbrev pub outcome_of_answers : ℕ → ℕ → Outcome
outcome_of_answers bytes records = record no_numbers { bytes = bytes; records = records }

-- a map of this many bytes has this outcome
abbrev pub outcome_of_map : ℕ → Outcome
outcome_of_map bytes = record no_numbers { bytes = bytes }

-- a fault of a line of the answers has the number that include/sokoaudit.h gives it
abbrev pub number_of_line : Why → ℕ
number_of_line why.Header = 5
number_of_line why.Level = 6
number_of_line why.Order = 7
number_of_line why.Unknown = 8
number_of_line why.Kind = 9
number_of_line why.Unclosed = 10

-- a fault of a board has the number that include/sokoaudit.h gives it
abbrev pub number_of_board : BoardFault → ℕ
number_of_board board_fault.Size = 12
number_of_board board_fault.Player = 13
number_of_board board_fault.Box = 14
number_of_board board_fault.Goals = 15
number_of_board board_fault.Open = 16
number_of_board board_fault.Memory = 1

-- an error has the number that include/sokoaudit.h gives it; 1 is out of memory, also for a failed write, because a text is made in
-- memory before it is copied
abbrev pub number_of_error : DeadError → ℕ
number_of_error (Audit (TooLong which.Levels)) = 2
number_of_error (Audit (TooLong which.Answers)) = 3
number_of_error (Audit TooManyLevels) = 4
number_of_error (Audit (Answers line reason)) = number_of_line reason
number_of_error NoLevel = 11
number_of_error (Board reason) = number_of_board reason
number_of_error _ = 1

-- an error names this line of the answers, or 0 if it names none
abbrev pub line_of_error : DeadError → ℕ
line_of_error (Audit (Answers line reason)) = line
line_of_error _ = 0

-- the error has the number of this outcome, and its line if it names one of the answers
abbrev pub IsErrorOf : Outcome → DeadError → Type 0
IsErrorOf outcome error =
    (number_of_error error ≡ outcome.fault) × ((line : ℕ) (reason : Why) → error ≡ Audit (Answers line reason) → line ≡ outcome.line)

-- an error has the outcome with its number, and with its line if it names one of the answers
abbrev pub outcome_of_error : DeadError → Outcome
outcome_of_error error = record no_numbers { fault = number_of_error error; line = line_of_error error }
