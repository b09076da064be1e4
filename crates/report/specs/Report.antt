-- The report: one line for each level, in order.
--   rows         the lines of a level, in the levels text
--   answer       what the answers text says of the level: the body of the one record with the level's number, if there is one
--   report       the status of each level, by its rows and its answer alone (`Status.antt`), in words (`Words.antt`);
--                and the total
-- `Means.antt` says what a status means, and `Printed.antt` what a printed line means.
use Rattle.std.specs.Prelude.{◌≡◌, ℕ, ◌+◌, ◌≤◌, length, List, [], ◌∷◌, Option, Some}
use Rattle.std.specs.List.{slice_get}
use Rattle.board.specs.Lines.{lines_in, without_mark}
use Rattle.board.specs.Levels.{AreLevelsOf, most_levels}
use Rattle.answers.specs.Grammar.{SpellsEntries}
use Rattle.answers.specs.Body.{Body, Entry}
use Rattle.report.specs.Answer.{answer_to}
use Rattle.report.specs.Means.{Means}
use Rattle.report.specs.Printed.{AreTrue}
use Rattle.report.specs.Status.{Says}
use Rattle.report.specs.Summary.{summary_of}
use Rattle.devices.specs.Reading.{most_bytes}
use Rattle.report.specs.Words.{report_text}
use Rattle.report.specs.declared.summary.Summary.{Summary}
use Rattle.report.specs.declared.status.Status.{Status}

-- there is one status for each level, in order, and `Holds` is true of the rows, the answer and the status of each level;
-- the first level has number n
abbrev pub OfEach : (List (List ℕ) → Option Body → Status → Type 0) → ℕ → List (List (List ℕ)) → List Entry → List Status → Type 0
OfEach Holds n [] entries [] = Unit {0}
OfEach Holds n [] entries (status ∷ statuses) = ⊥
OfEach Holds n (rows ∷ levels) entries [] = ⊥
OfEach Holds n (rows ∷ levels) entries (status ∷ statuses) = Holds rows (answer_to n entries) status × OfEach Holds (n + 1) levels entries statuses

-- each status is the one of its level's rows and answer
abbrev pub AllSay : List (List (List ℕ)) → List Entry → List Status → Type 0
AllSay = OfEach Says 1

-- each status means something true of its level's rows and answer
abbrev pub AllMean : List (List (List ℕ)) → List Entry → List Status → Type 0
AllMean = OfEach Means 1

-- neither text is too long
pub record AreShort (levels_text answers_text : List ℕ) : Type 0 where
  pub levels : length levels_text ≤ most_bytes
  pub answers : length answers_text ≤ most_bytes

-- two texts have these statuses, one for each level, in order
pub record AreStatuses (levels_text answers_text : List ℕ) (statuses : List Status) : Type 0 where
  pub levels : List (List (List ℕ))
  pub entries : List Entry
  pub short : AreShort levels_text answers_text
  pub levels_are : AreLevelsOf levels (lines_in (without_mark levels_text))
  pub few : length levels ≤ most_levels
  pub answers_are : SpellsEntries answers_text (length levels) entries
  pub say : AllSay levels entries statuses
  pub mean : AllMean levels entries statuses

-- two texts have this report, with these numbers in its last line
pub record IsReport (levels_text answers_text text : List ℕ) (summary : Summary) : Type 0 where
  pub statuses : List Status
  pub are : AreStatuses levels_text answers_text statuses
  pub text_is : text ≡ report_text statuses
  pub lines : AreTrue are.levels are.entries text
  pub summary_is : summary ≡ summary_of statuses

-- the report has these rows, this answer and this status for level number before + 1
abbrev pub HasLine : {levels_text answers_text text : List ℕ} {summary : Summary} → IsReport levels_text answers_text text summary → ℕ → List (List ℕ)
    → Option Body → Status → Type 0
HasLine report before rows answer status =
    (slice_get report.are.levels before ≡ Some rows) × (answer_to (before + 1) report.are.entries ≡ answer) × (slice_get report.statuses before ≡ Some status)
