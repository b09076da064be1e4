-- What the lines of a printed report claim, over its bytes. No status is named here.
--   levels    the levels of the levels text, each as its rows
--   entries   what the answers text says
--   words     the rest of the line of level n after `level n `
use Rattle.std.specs.Prelude.{◌≡◌, ◌⊎◌, ◌==◌, ℕ, ◌+◌, length, List, ◌++◌, Some, codes, count_by, decimal}
use Rattle.std.specs.List.{slice_get, starts_with}
use Rattle.board.specs.Lines.{lines_in}
use Rattle.play.specs.declared.tally.Tally.{Tally}
use Rattle.answers.specs.Body.{Entry}
use Rattle.report.specs.Answer.{answer_to}
use Rattle.report.specs.Means.{IsMissing, IsSolvedBy}
use Rattle.report.specs.Status.{IsFirstFaultOf}
use Rattle.report.specs.Unsolvable.{IsUnsolvable}
use Rattle.report.specs.Words.{refusal_words, solved_words}
use Rattle.report.specs.declared.status.Refusal.{Refusal}

-- line number before + 1 of the text is the line of the level with this number, and has these words
abbrev pub HasWords : List ℕ → ℕ → List ℕ → Type 0
HasWords text before words = slice_get (lines_in text) before ≡ Some (codes "level " ++ decimal (before + 1) ++ codes " " ++ words)

-- each line `level n unsolvable ..` is true: no play solves the level that the rows of level n draw
abbrev pub AreUnsolvable : List (List (List ℕ)) → List ℕ → Type 0
AreUnsolvable levels text = (before : ℕ) (rows : List (List ℕ)) (words : List ℕ)
    → slice_get levels before ≡ Some rows → HasWords text before (codes "unsolvable " ++ words) → IsUnsolvable rows

-- the words say one of four things
abbrev pub AreOfAKind : List ℕ → Type 0
AreOfAKind words = ((rest : List ℕ) × (words ≡ codes "solved " ++ rest)) ⊎ (((rest : List ℕ) × (words ≡ codes "unsolvable " ++ rest))
    ⊎ (((rest : List ℕ) × (words ≡ codes "refused " ++ rest)) ⊎ (words ≡ codes "missing")))

-- this many of the words begin with the text
abbrev pub count_of : List ℕ → List (List ℕ) → ℕ
count_of text words = count_by (λ own. starts_with ◌==◌ own text) words

-- the total of lines that have these words counts the lines, and the lines of each kind
abbrev pub total_of : List (List ℕ) → List ℕ
total_of words = codes "total " ++ decimal (length words) ++ codes " solved " ++ decimal (count_of (codes "solved ") words)
    ++ codes " unsolvable " ++ decimal (count_of (codes "unsolvable ") words) ++ codes " refused " ++ decimal (count_of (codes "refused ") words)
    ++ codes " missing " ++ decimal (count_of (codes "missing") words)

-- each level has its line in a printed report, and the line is true
pub record AreTrue (levels : List (List (List ℕ))) (entries : List Entry) (text : List ℕ) : Type 0 where
  -- the report has a line for each level, and one more
  pub count : length (lines_in text) ≡ length levels + 1
  pub each : (before : ℕ) (rows : List (List ℕ)) → slice_get levels before ≡ Some rows → (words : List ℕ) × HasWords text before words × AreOfAKind words
  pub solved : (before : ℕ) (rows : List (List ℕ)) (words : List ℕ) → slice_get levels before ≡ Some rows → HasWords text before (codes "solved " ++ words)
      → (tally : Tally) × (codes "solved " ++ words ≡ solved_words tally) × IsSolvedBy rows (answer_to (before + 1) entries) tally
  pub unsolvable : AreUnsolvable levels text
  pub refused : (before : ℕ) (rows : List (List ℕ)) (words : List ℕ) → slice_get levels before ≡ Some rows → HasWords text before (codes "refused " ++ words)
      → (fault : Refusal) × (words ≡ refusal_words fault) × IsFirstFaultOf rows (answer_to (before + 1) entries) fault
  pub missing : (before : ℕ) (rows : List (List ℕ)) → slice_get levels before ≡ Some rows → HasWords text before (codes "missing")
      → IsMissing rows (answer_to (before + 1) entries)
  -- the last line is the total of the lines of the levels
  pub total : (words : List (List ℕ)) × (length words ≡ length levels)
      × ((before : ℕ) (own : List ℕ) → slice_get words before ≡ Some own → HasWords text before own)
      × (slice_get (lines_in text) (length levels) ≡ Some (total_of words))
