-- A level with its answer has one status, and two texts have one report.
-- A legal level is not refused and has one board. Letters that solve it have no fault and one tally; letters that don't
-- solve it have one first fault. The same holds of lists and zones, by the laws of the checks. The levels of a text are one
-- list, and so are the records of the answers. So each level has one status, and the text and its numbers follow. What a
-- line of a report says of its level is that one status.
use Rattle.std.proofs.Common.{◌≡◌, ◌+◌, ℕ, List, [], ◌∷◌, length, Option, Some, None, refl, sym, ◌∙◌, ap, ap₂, inl, inr, arith}
use Rattle.std.specs.List.{concat, slice_get}
use Rattle.board.specs.Game.{Level}
use Rattle.board.specs.Legal.{IsBoardOf, IsRefusal}
use Rattle.board.specs.Levels.{AreLevelsOf}
use Rattle.board.specs.Lines.{lines_in, without_mark}
use Rattle.board.specs.declared.reading.BoardFault.{BoardFault}
use Rattle.play.specs.Solution.{Solves}
use Rattle.play.specs.FirstFault.{IsFirstSolutionFault}
use Rattle.play.specs.declared.tally.Tally.{Tally}
use Rattle.play.specs.declared.fault.ReplayFault.{ReplayFault}
use Rattle.answers.specs.Body.{Body, Entry, LetterLines, PatternLines, OneZone, FirstBad, PatternLine, ZoneLine}
use Rattle.answers.specs.Grammar.{SpellsEntries}
use Rattle.answers.specs.FirstFault.{IsFirstAnswersFault}
use Rattle.answers.specs.declared.fault.AnswersFault.{AnswersFault}
use Rattle.closure.specs.FirstFault.{IsFirstPatternFault, IsFirstZoneFault, ClosedHasNoFault, RefutingHasNoFault}
use Rattle.closure.specs.declared.fault.CheckFault.{CheckFault}
use Rattle.closure.specs.declared.fault.ZoneFault.{ZoneFault}
use Rattle.report.specs.Answer.{answer_to}
use Rattle.report.specs.Means.{Means}
use Rattle.report.specs.Report.{HasLine, IsReport, OfEach}
use Rattle.report.specs.Status.{Says}
use Rattle.report.specs.Summary.{summary_of}
use Rattle.report.specs.Words.{report_text}
use Rattle.report.specs.Audit.{IsTextError, IsFirstError}
use Rattle.report.specs.declared.fault.AuditError.{AuditError}
use Rattle.report.specs.declared.fault.AuditError.TheVariants.{Read, Write, TooLong, TooManyLevels, Answers, Memory}
use Rattle.report.specs.declared.fault.Which.TheVariants as which
use Rattle.report.specs.declared.status.Status.{Status}
use Rattle.report.specs.declared.status.Status.TheVariants.{Solved}
use Rattle.report.specs.declared.summary.Summary.{Summary}
use Rattle.report.proofs.Accepted.{no_text_error}
use Rattle.report.proofs.Answered.{SaysOfRows, SaysOn, of_rows}
use Rattle.report.proofs.Reports.{each_at}

-- the layers below promise: a level has one board, an answer has one tally or first fault, and an accepted certificate has no fault
pub record AreLaws : Type 0 where
  pub one_board : (rows : List (List ℕ)) (level other : Level) → IsBoardOf rows level → IsBoardOf rows other → level ≡ other
  pub not_refused : (rows : List (List ℕ)) (level : Level) (why : BoardFault) → IsBoardOf rows level → IsRefusal rows why → ⊥
  pub one_refusal : (rows : List (List ℕ)) (why other : BoardFault) → IsRefusal rows why → IsRefusal rows other → why ≡ other
  pub one_tally : (level : Level) (text : List ℕ) (a b : Tally) → Solves level text a → Solves level text b → a ≡ b
  pub one_fault : (level : Level) (text : List ℕ) (a b : ReplayFault) → IsFirstSolutionFault level text a → IsFirstSolutionFault level text b → a ≡ b
  pub no_fault : (level : Level) (text : List ℕ) (tally : Tally) (fault : ReplayFault) → Solves level text tally → IsFirstSolutionFault level text fault → ⊥
  pub one_list_fault : (level : Level) (lines : List PatternLine) (a b : CheckFault) → IsFirstPatternFault level lines a
      → IsFirstPatternFault level lines b → a ≡ b
  pub no_list_fault : ClosedHasNoFault
  pub one_zone_fault : (level : Level) (line : ZoneLine) (a b : ZoneFault) → IsFirstZoneFault level line a → IsFirstZoneFault level line b → a ≡ b
  pub no_zone_fault : RefutingHasNoFault

-- ---- one status
module _ (laws : AreLaws) where
  one_on_board : (level : Level) (answer : Option Body) (a b : Status) → SaysOn level answer a → SaysOn level answer b → a ≡ b
  one_on_board level None a b is also = is ∙ sym also
  one_on_board level (Some (FirstBad line why)) a b is also = is ∙ sym also
  one_on_board level (Some (LetterLines lines)) a b (inl (tally, solves, is)) (inl (other, again, also)) =
      is ∙ ap Solved (laws.one_tally level (concat lines) tally other solves again) ∙ sym also
  one_on_board level (Some (LetterLines lines)) a b (inl (tally, solves, is)) (inr (fault, first, also)) =
      absurd (laws.no_fault level (concat lines) tally fault solves first)
  one_on_board level (Some (LetterLines lines)) a b (inr (fault, first, is)) (inl (tally, solves, also)) =
      absurd (laws.no_fault level (concat lines) tally fault solves first)
  one_on_board level (Some (LetterLines lines)) a b (inr (fault, first, is)) (inr (other, again, also)) = grind arith
  one_on_board level (Some (PatternLines patterns)) a b (inl (list, is)) (inl (again, also)) = is ∙ sym also
  one_on_board level (Some (PatternLines patterns)) a b (inl (list, is)) (inr (fault, first, also)) = grind arith
  one_on_board level (Some (PatternLines patterns)) a b (inr (fault, first, is)) (inl (list, also)) = grind arith
  one_on_board level (Some (PatternLines patterns)) a b (inr (fault, first, is)) (inr (other, again, also)) = grind arith
  one_on_board level (Some (OneZone zone)) a b (inl (refutes, is)) (inl (again, also)) = is ∙ sym also
  one_on_board level (Some (OneZone zone)) a b (inl (refutes, is)) (inr (fault, first, also)) = grind arith
  one_on_board level (Some (OneZone zone)) a b (inr (fault, first, is)) (inl (refutes, also)) = grind arith
  one_on_board level (Some (OneZone zone)) a b (inr (fault, first, is)) (inr (other, again, also)) = grind arith

  one_of_rows : (rows : List (List ℕ)) (answer : Option Body) (a b : Status) → SaysOfRows rows answer a → SaysOfRows rows answer b → a ≡ b
  one_of_rows rows answer a b (inl (why, refusal, is)) (inl (other, again, also)) = grind arith
  one_of_rows rows answer a b (inl (why, refusal, is)) (inr (level, board, says)) = absurd (laws.not_refused rows level why board refusal)
  one_of_rows rows answer a b (inr (level, board, says)) (inl (why, refusal, is)) = absurd (laws.not_refused rows level why board refusal)
  one_of_rows rows answer a b (inr (level, board, says)) (inr (other, again, also)) =
      one_on_board level answer a b says (rw (laws.one_board rows other level again board) at also)

  pub one_status : (rows : List (List ℕ)) (answer : Option Body) (a b : Status) → Says rows answer a → Says rows answer b → a ≡ b
  one_status rows answer a b says also = search (one_of_rows, of_rows)

-- ---- a line of a report
held_in : (Holds : List (List ℕ) → Option Body → Status → Type 0) (levels : List (List (List ℕ))) (entries : List Entry) (statuses : List Status) (before : ℕ)
    (rows : List (List ℕ)) (answer : Option Body) (status : Status) → OfEach Holds 1 levels entries statuses
    → slice_get levels before ≡ Some rows → answer_to (before + 1) entries ≡ answer → slice_get statuses before ≡ Some status → Holds rows answer status
held_in Holds levels entries statuses before rows answer status each there answered line = grind (arith, each_at)

pub said_in : {lt at text : List ℕ} {summary : Summary} (report : IsReport lt at text summary) (before : ℕ) (rows : List (List ℕ)) (answer : Option Body)
    (status : Status) → HasLine report before rows answer status → Says rows answer status
said_in report before rows answer status (there, answered, line) =
    held_in Says report.are.levels report.are.entries report.statuses before rows answer status report.are.say there answered line

pub meant_in : {lt at text : List ℕ} {summary : Summary} (report : IsReport lt at text summary) (before : ℕ) (rows : List (List ℕ)) (answer : Option Body)
    (status : Status) → HasLine report before rows answer status → Means rows answer status
meant_in report before rows answer status (there, answered, line) =
    held_in Means report.are.levels report.are.entries report.statuses before rows answer status report.are.mean there answered line

-- ---- one report
module _ (one : (rows : List (List ℕ)) (answer : Option Body) (a b : Status) → Says rows answer a → Says rows answer b → a ≡ b)
    (one_list : (levels others : List (List (List ℕ))) (lines : List (List ℕ)) → AreLevelsOf levels lines → AreLevelsOf others lines → levels ≡ others)
    (one_reading : (text : List ℕ) (levels : ℕ) (entries others : List Entry) → SpellsEntries text levels entries → SpellsEntries text levels others
    → entries ≡ others)
    (no_fault : (text : List ℕ) (levels : ℕ) (entries : List Entry) (fault : AnswersFault) → SpellsEntries text levels entries
    → IsFirstAnswersFault text levels fault → ⊥) where
  one_by_one : (n : ℕ) (levels : List (List (List ℕ))) (entries : List Entry) (a b : List Status) → OfEach Says n levels entries a
      → OfEach Says n levels entries b → a ≡ b
  one_by_one n [] entries [] [] x y = refl
  one_by_one n [] entries [] (t ∷ ts) x y = absurd y
  one_by_one n [] entries (s ∷ ss) b x y = absurd x
  one_by_one n (rows ∷ levels) entries [] b x y = absurd x
  one_by_one n (rows ∷ levels) entries (s ∷ ss) [] x y = absurd y
  one_by_one n (rows ∷ levels) entries (s ∷ ss) (t ∷ ts) (says, rest) (says', rest') =
      ap₂ (λ (x : Status) (xs : List Status). x ∷ xs) (one rows (answer_to n entries) s t says says') (one_by_one (n + 1) levels entries ss ts rest rest')

  same_statuses : (lt at text other : List ℕ) (summary others : Summary) (r : IsReport lt at text summary) (q : IsReport lt at other others)
      → r.statuses ≡ q.statuses
  same_statuses lt at text other summary others r q =
      let levels = one_list r.are.levels q.are.levels (lines_in (without_mark lt)) r.are.levels_are q.are.levels_are in
      let spelled = rw levels at r.are.answers_are in
      let entries = one_reading at (length q.are.levels) r.are.entries q.are.entries spelled q.are.answers_are in
      let say = rw levels at r.are.say in
      one_by_one 1 q.are.levels q.are.entries r.statuses q.statuses (rw entries at say) q.are.say

  pub one_report : (lt at text other : List ℕ) (summary others : Summary) → IsReport lt at text summary → IsReport lt at other others
      → (text ≡ other) × (summary ≡ others)
  one_report lt at text other summary others r q =
      let same = same_statuses lt at text other summary others r q in
      (r.text_is ∙ ap report_text same ∙ sym q.text_is, r.summary_is ∙ ap summary_of same ∙ sym q.summary_is)

  -- two texts with a report have no error
  none_of_two : (lt at text : List ℕ) (summary : Summary) (error : AuditError) → IsReport lt at text summary → IsTextError lt at error → ⊥
  none_of_two lt at text summary error r =
      no_text_error lt at r.are.levels r.are.entries (record { short = r.are.short.levels; levels_are = r.are.levels_are; few = r.are.few }) r.are.answers_are
      (λ other are. one_list r.are.levels other (lines_in (without_mark lt)) r.are.levels_are are)
      (λ fault spelled first. no_fault at (length r.are.levels) r.are.entries fault spelled first) error

  pub no_error : (lt at text : List ℕ) (summary : Summary) (error : AuditError) → IsReport lt at text summary → IsFirstError lt at error → ⊥
  no_error lt at text summary (TooLong which.Levels) r long = grind arith
  no_error lt at text summary (TooLong which.Answers) r (_, long) = grind arith
  no_error lt at text summary (Read w) r error = error.1
  no_error lt at text summary Write r error = error.1
  no_error lt at text summary TooManyLevels r (_, error) = none_of_two lt at text summary TooManyLevels r error
  no_error lt at text summary (Answers line why) r (_, error) = none_of_two lt at text summary (Answers line why) r error
  no_error lt at text summary Memory r error = error.1
