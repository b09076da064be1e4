-- The answers that are made for a collection.
--   nothing   is made for a level that is refused, and for one without a certificate that can be made
--   record    of a level for which a certificate is made: its number and the certificate
--   text      the canonical text of these records, in the order of their levels
use Rattle.std.specs.Prelude.{◌≡◌, ◌⊎◌, ℕ, ◌+◌, List, [], ◌∷◌, length, Some, true, Result, Ok, Err}
use Rattle.board.specs.Game.{Level}
use Rattle.board.specs.Legal.{IsBoardOf, IsRefusal}
use Rattle.board.specs.declared.reading.BoardFault.{BoardFault}
use Rattle.answers.specs.Canonical.{canonical}
use Rattle.answers.specs.Body.{Body, Entry}
use Rattle.answers.specs.declared.record.MadeBody.{MadeBody}
use Rattle.answers.specs.declared.record.MadeRecord.{MadeRecord}
use Rattle.answers.specs.RoundTrip.{IsLawfulBody}
use Rattle.maker.specs.Made.{IsMade, IsNothingMade, IsAcceptedMade, body_of}
use Rattle.maker.specs.declared.making.Made.{Made}
use Rattle.report.specs.Audit.{IsTextError}
use Rattle.report.specs.Collection.{IsCollection, Count, Stays, CountsError}
use Rattle.report.specs.Answer.{answer_to}
use Rattle.report.specs.Report.{IsReport}
use Rattle.report.specs.Summary.{is_unsolvable}
use Rattle.report.specs.declared.fault.AuditError.{AuditError}
use Rattle.report.specs.declared.status.Status.{Status}
use Rattle.report.specs.declared.summary.Summary.{Summary}

-- the rows are refused
abbrev pub IsRefused : List (List ℕ) → Type 0
IsRefused rows = (why : BoardFault) × IsRefusal rows why

-- the rows have a board for which nothing is made
abbrev pub HasNothingMade : List (List ℕ) → Type 0
HasNothingMade rows = (level : Level) × IsBoardOf rows level × IsNothingMade level

-- the body is the certificate that is made for the rows' board; the check accepts it, and a text can spell it
pub record IsMadeBody (rows : List (List ℕ)) (body : MadeBody) : Type 0 where
  pub level : Level
  pub legal : IsBoardOf rows level
  pub made : Made
  pub is : IsMade level made
  pub accepted : IsAcceptedMade level made
  pub body_is : body ≡ body_of made
  pub lawful : IsLawfulBody body

-- these records are made for these levels, in order; the first level has number n
pub data AreMade : ℕ → List (List (List ℕ)) → List MadeRecord → Type 0 where
  none_left : {n : ℕ} → AreMade n [] []
  without : {n : ℕ} {rows : List (List ℕ)} {levels : List (List (List ℕ))} {records : List MadeRecord}
      → IsRefused rows ⊎ HasNothingMade rows → AreMade (n + 1) levels records → AreMade n (rows ∷ levels) records
  with_record : {n : ℕ} {rows : List (List ℕ)} {levels : List (List (List ℕ))} {body : MadeBody} {records : List MadeRecord}
      → IsMadeBody rows body → AreMade (n + 1) levels records → AreMade n (rows ∷ levels) (record { level = n; body = body } ∷ records)

-- the text has the made answers of a levels text, with `count` records
pub record AreMadeAnswers (levels_text text : List ℕ) (count : ℕ) : Type 0 where
  pub levels : List (List (List ℕ))
  pub collection : IsCollection levels_text levels
  pub records : List MadeRecord
  pub made : AreMade 1 levels records
  pub text_is : text ≡ canonical records
  pub count_is : count ≡ length records

-- the text has the made answers of a levels text
abbrev pub IsMadeText : List ℕ → List ℕ → Type 0
IsMadeText levels_text text = (count : ℕ) × AreMadeAnswers levels_text text count

-- the call counts one failure of the device that failed, and none of the other
abbrev pub CountsMade : {A : Type 0} → Count → Count → Result A AuditError → Type 0
CountsMade levels answers (Ok _) = Stays levels × Stays answers
CountsMade levels answers (Err error) = CountsError levels answers error

-- ---- made answers in an audit
-- each level that has an answer is unsolvable by it; the first level has number n
abbrev pub AreAccepted : ℕ → List Entry → List Status → Type 0
AreAccepted n entries [] = Unit {0}
AreAccepted n entries (status ∷ statuses) =
    ((body : Body) → answer_to n entries ≡ Some body → is_unsolvable status ≡ true) × AreAccepted (n + 1) entries statuses

-- a collection with its made answers has no error of two texts
abbrev pub MadeHasNoError : Type 0
MadeHasNoError = (levels_text text : List ℕ) (count : ℕ) (error : AuditError) → AreMadeAnswers levels_text text count → IsTextError levels_text text error → ⊥

-- in the report on a collection with its made answers each level with an answer is unsolvable by it, and no other level is
abbrev pub MadeIsAccepted : Type 0
MadeIsAccepted = (levels_text text report : List ℕ) (count : ℕ) (summary : Summary) → AreMadeAnswers levels_text text count
    → (r : IsReport levels_text text report summary) → AreAccepted 1 r.are.entries r.statuses × (summary.unsolvable ≡ count)
