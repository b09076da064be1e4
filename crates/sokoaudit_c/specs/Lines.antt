-- What the entries of C claim, over their numbers. No status is named here.
--   levels    the levels of the levels text, each as its rows
--   entries   what the answers text says
--   lines     the entries of C, one for each level that there was space for
use Rattle.std.specs.Prelude.{◌≡◌, ◌⊎◌, ℕ, ◌+◌, ◌<◌, List, Some}
use Rattle.std.specs.List.{slice_get}
use Rattle.answers.specs.Body.{Entry}
use Rattle.play.specs.declared.tally.Tally.{Tally}
use Rattle.report.specs.Answer.{answer_to}
use Rattle.report.specs.Means.{IsSolvedBy}
use Rattle.report.specs.Printed.{HasWords}
use Rattle.report.specs.Report.{IsReport}
use Rattle.report.specs.Unsolvable.{IsUnsolvable}
use Rattle.report.specs.declared.summary.Summary.{Summary}
use Rattle.sokoaudit_c.specs.Numbers.{spelled}
use Rattle.sokoaudit_c.specs.declared.numbers.Line.{Line}

-- an entry has these counts
abbrev pub tally_of : Line → Tally
tally_of l = record { moves = l.moves; pushes = l.pushes; changes = l.changes }

-- each entry that calls its level solved or unsolvable is right
pub record AreRight (levels : List (List (List ℕ))) (entries : List Entry) (lines : List Line) : Type 0 where
  -- if an entry calls its level solved, the letters of the answer solve the level, with the entry's counts
  pub solved : (before : ℕ) (rows : List (List ℕ)) (line : Line) → slice_get levels before ≡ Some rows → slice_get lines before ≡ Some line
      → line.status ≡ 1 → IsSolvedBy rows (answer_to (before + 1) entries) (tally_of line)
  -- if an entry calls its level unsolvable, no list of directions, of any length, solves the level
  pub unsolvable : (before : ℕ) (rows : List (List ℕ)) (line : Line) → slice_get levels before ≡ Some rows → slice_get lines before ≡ Some line
      → (line.status ≡ 2) ⊎ (line.status ≡ 3) → IsUnsolvable rows

-- the words after `level n ` in the report of the two texts are those that entry n spells
abbrev pub SpellReport : List ℕ → List ℕ → List Line → Type 0
SpellReport levels_text answers_text lines = (text : List ℕ) (summary : Summary) → IsReport levels_text answers_text text summary
    → (before : ℕ) (line : Line) → before < summary.levels → slice_get lines before ≡ Some line → HasWords text before (spelled line)
