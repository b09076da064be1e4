-- Why each status means something true.
-- A status comes from one of nine cases, and the premises of each are what the status means. That a level with an accepted certificate is
-- not solvable is promised by the check, and comes in as a premise. What a record says is what the grammar reads in it,
-- and that is one body.
use Rattle.std.proofs.Common.{◌≡◌, ◌⊎◌, ℕ, List, Some, None, Option, length, true, refl, sym, subst, inl, inr}
use Rattle.std.specs.Prelude.{Result, Ok, Err, IfOk}
use Rattle.std.specs.Borrow.{Bor}
use Rattle.std.specs.FinSet as set
use Rattle.std.specs.List.{concat}
use Rattle.board.specs.Game.{Level, Solvable}
use Rattle.board.specs.Legal.{IsBoardOf, IsRefusal}
use Rattle.board.specs.declared.reading.BoardFault.{BoardFault}
use Rattle.play.specs.FirstFault.{IsFirstSolutionFault}
use Rattle.play.specs.Solution.{Solves}
use Rattle.play.specs.declared.fault.ReplayFault.{ReplayFault}
use Rattle.play.specs.declared.tally.Tally.{Tally}
use Rattle.answers.specs.Body.{Body, FirstBad, LetterLines, OneZone, PatternLines}
use Rattle.answers.specs.Reading.{entry_of}
use Rattle.answers.specs.Records.{SaysOfLevel}
use Rattle.answers.specs.declared.record_text.RecordText.{RecordText}
use Rattle.answers.proofs.BodyLines.{body_says, says_one_body}
use Rattle.certificates.specs.CellLists.{cells_of}
use Rattle.certificates.specs.Closed.{Closed}
use Rattle.closure.specs.FirstFault.{IsFirstPatternFault, IsFirstZoneFault}
use Rattle.certificates.specs.Pattern.{patterns_of}
use Rattle.certificates.specs.Zone.{IsRefuting}
use Rattle.closure.specs.declared.fault.CheckFault.{CheckFault}
use Rattle.closure.specs.declared.fault.ZoneFault.{ZoneFault}
use Rattle.report.specs.Judging.{SaysBy, said_answer}
use Rattle.report.specs.Means.{Means}
use Rattle.report.specs.Status.{Says, illegal, missing, bad_line, solved, not_solved, closed, not_closed, refuting, not_refuting}
use Rattle.report.specs.Summary.{is_unsolvable}
use Rattle.report.specs.Unsolvable.{IsUnsolvable}
use Rattle.report.specs.declared.status.Status.{Status}
use Rattle.report.specs.declared.status.Status.TheVariants.{Missing, Refused, Solved, Unsolvable, UnsolvableZone}
use Rattle.report.specs.declared.status.Refusal.TheVariants.{BadLine, Board, Patterns, Solution, Zone}

-- if no play solves the board of the rows, the rows have a board that no play solves
pub with_board : {E : Type 0} (r : Result Status E) (rows : List (List ℕ)) (level : Level) → IsBoardOf rows level
    → IfOk r (λ status. is_unsolvable status ≡ true → Solvable level → ⊥)
    → IfOk r (λ status. is_unsolvable status ≡ true → (board : Level) × IsBoardOf rows board × (Solvable board → ⊥))
with_board (Ok status) rows level is h = search
with_board (Err e) rows level is h = tt

drawn : (rows : List (List ℕ)) → (level : Level) × IsBoardOf rows level × (Solvable level → ⊥) → IsUnsolvable rows
drawn rows (level, is, none) = (level, is.parts.drawn, none)

-- each status that the rows and the answer say means something true
pub means : (rows : List (List ℕ)) (answer : Option Body) (status : Status)
    → (is_unsolvable status ≡ true → (level : Level) × IsBoardOf rows level × (Solvable level → ⊥)) → Says rows answer status → Means rows answer status
means rows answer status lost (illegal refusal) = refusal
means rows answer status lost (missing {level = level} is) = (refl, level, is)
means rows answer status lost (bad_line {level = level} is) = (level, is, refl)
means rows answer status lost (solved {level = level} {lines = lines} is solves) = search
means rows answer status lost (not_solved {level = level} {lines = lines} is first) = search
means rows answer status lost (closed is list) = drawn rows (lost refl)
means rows answer status lost (not_closed {level = level} {patterns = patterns} is first) = search
means rows answer status lost (refuting is zone) = drawn rows (lost refl)
means rows answer status lost (not_refuting {level = level} {zone = zone} is first) = search

-- ---- the cases by the answer
-- what the answer says on a board: one status, or a status by what holds of the board
abbrev pub SaysOn : Level → Option Body → Status → Type 0
SaysOn level None status = status ≡ Missing
SaysOn level (Some (FirstBad line why)) status = status ≡ Refused (BadLine line why)
SaysOn level (Some (LetterLines lines)) status = ((tally : Tally) × Solves level (concat lines) tally × (status ≡ Solved tally))
    ⊎ ((fault : ReplayFault) × IsFirstSolutionFault level (concat lines) fault × (status ≡ Refused (Solution fault)))
SaysOn level (Some (PatternLines patterns)) status = (Closed level (patterns_of patterns) × (status ≡ Unsolvable (length patterns)))
    ⊎ ((fault : CheckFault) × IsFirstPatternFault level patterns fault × (status ≡ Refused (Patterns fault)))
SaysOn level (Some (OneZone zone)) status = (IsRefuting level (cells_of zone.cells) × (status ≡ UnsolvableZone (set.len (cells_of zone.cells))))
    ⊎ ((fault : ZoneFault) × IsFirstZoneFault level zone fault × (status ≡ Refused (Zone fault)))

-- the rows are refused, or the answer says the status on their board
abbrev pub SaysOfRows : List (List ℕ) → Option Body → Status → Type 0
SaysOfRows rows answer status = ((why : BoardFault) × IsRefusal rows why × (status ≡ Refused (Board why)))
    ⊎ ((level : Level) × IsBoardOf rows level × SaysOn level answer status)

pub of_rows : {rows : List (List ℕ)} {answer : Option Body} {status : Status} → Says rows answer status → SaysOfRows rows answer status
of_rows (illegal {why = why} refusal) = inl (why, refusal, refl)
of_rows (missing {level = level} is) = inr (level, is, refl)
of_rows (bad_line {level = level} is) = inr (level, is, refl)
of_rows (solved {level = level} {tally = tally} is solves) = inr (level, is, inl (tally, solves, refl))
of_rows (not_solved {level = level} {fault = fault} is first) = inr (level, is, inr (fault, first, refl))
of_rows (closed {level = level} is list) = inr (level, is, inl (list, refl))
of_rows (not_closed {level = level} {fault = fault} is first) = inr (level, is, inr (fault, first, refl))
of_rows (refuting {level = level} is refutes) = inr (level, is, inl (refutes, refl))
of_rows (not_refuting {level = level} {fault = fault} is first) = inr (level, is, inr (fault, first, refl))

-- ---- the answer in a record

pub says_by : (rows : List (List ℕ)) (r : RecordText) (status : Status) → Says rows (Some (entry_of r).body) status → (body : Body) → SaysOfLevel r body
    → Says rows (Some body) status
says_by rows r status says body reads = subst (λ b. Says rows (Some b) status) (sym (says_one_body r body reads)) says

pub says_said : (rows : List (List ℕ)) (answer : Option (Bor RecordText)) (status : Status) → SaysBy rows answer status → Says rows (said_answer answer) status
says_said rows None status says = says
says_said rows (Some r) status says = search (body_says)

pub illegal_by : (rows : List (List ℕ)) (answer : Option (Bor RecordText)) (why : BoardFault) → IsRefusal rows why → SaysBy rows answer (Refused (Board why))
illegal_by rows None why refusal = illegal refusal
illegal_by rows (Some r) why refusal = λ body reads. illegal refusal

pub said_by : {E : Type 0} (judged : Result Status E) (rows : List (List ℕ)) (level : Level) (answer : Option (Bor RecordText)) → IsBoardOf rows level
    → IfOk judged (λ status. (rows : List (List ℕ)) → IsBoardOf rows level → Says rows (said_answer answer) status) → IfOk judged (SaysBy rows answer)
said_by (Ok status) rows level None board says = says rows board
said_by (Ok status) rows level (Some r) board says = search (says_by)
said_by (Err e) rows level answer board says = tt
