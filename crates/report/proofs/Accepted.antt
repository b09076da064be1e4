-- Why made answers are accepted.
-- The records are in the order of their levels, so each level has its own record or none, and the text says the same as
-- the records. A made list is closed and a made zone refutes, whatever the numbers of their lines. Such a list or zone has
-- no fault, and the rows of its level have one board and are not refused. So the status can only be unsolvable. A
-- level without a record can only be refused or missing.
use Rattle.std.proofs.Common.{◌≡◌, ◌≢◌, ℕ, suc, cond, ◌+◌, ◌<◌, ◌≤◌, List, [], ◌∷◌, length, Option, Some, None, true, false, refl, ◌∙◌, ap, ap₂, inl, inr, arith}
use Rattle.std.specs.Prelude.{map, count_by}
use Rattle.std.proofs.lemmas.List.Sums.{sum_by-append}
use Rattle.board.specs.Game.{Level}
use Rattle.board.specs.Legal.{IsBoardOf, IsRefusal}
use Rattle.board.specs.declared.reading.BoardFault.{BoardFault}
use Rattle.board.specs.Levels.{AreLevelsOf}
use Rattle.board.specs.Lines.{lines_in, without_mark}
use Rattle.answers.specs.FirstFault.{IsFirstAnswersFault}
use Rattle.answers.specs.declared.fault.AnswersFault.{AnswersFault}
use Rattle.answers.specs.Grammar.{SpellsEntries, said_pattern}
use Rattle.answers.specs.Body.{Body, Entry, PatternLine, LetterLines, PatternLines, OneZone, FirstBad}
use Rattle.answers.specs.RoundTrip.{AreLawfulRecords, SaysBody, SaysSame, boxes_and_seeds}
use Rattle.answers.specs.declared.pattern.Pattern.{Pattern as MadePattern}
use Rattle.answers.specs.declared.record.MadeBody.{MadeBody}
use Rattle.answers.specs.declared.record.MadeRecord.{MadeRecord}
use Rattle.closure.specs.FirstFault.{ClosedHasNoFault, RefutingHasNoFault}
use Rattle.certificates.specs.Pattern.{Pattern, patterns_of, pattern_of}
use Rattle.maker.specs.Made.{IsAcceptedMade, body_of}
use Rattle.maker.specs.declared.making.Made.{Made}
use Rattle.maker.specs.declared.making.Made.TheVariants.{Patterns, Zone}
use Rattle.report.specs.Audit.{IsTextError, answers_fault_of}
use Rattle.report.specs.Collection.{IsCollection}
use Rattle.report.specs.declared.fault.AuditError.{AuditError}
use Rattle.report.specs.declared.fault.AuditError.TheVariants.{Read, Write, TooLong, TooManyLevels, Answers, Memory}
use Rattle.report.specs.MadeAnswers.{IsMadeBody, AreMade, none_left, without, with_record, AreAccepted}
use Rattle.report.specs.Answer.{answer_to}
use Rattle.report.specs.Report.{OfEach}
use Rattle.report.specs.Status.{Says}
use Rattle.report.specs.Summary.{is_unsolvable}
use Rattle.report.specs.declared.status.Status.{Status}
use Rattle.report.proofs.Answered.{SaysOn, of_rows}
use Rattle.report.proofs.Reports.{answered, passed}

-- ---- the records
-- the numbers of made records rise from the first level's number, and their bodies can be spelled
pub lawful_records : (n low high : ℕ) (levels : List (List (List ℕ))) (records : List MadeRecord) → AreMade n levels records → low < n
    → n + length levels ≤ high + 1 → AreLawfulRecords low high records
lawful_records n low high levels records none_left above within = tt
lawful_records n low high levels records (without {rows = rows} {levels = others} none rest) above within =
    lawful_records (n + 1) low high others records rest (omega arith) (omega arith)
lawful_records n low high levels records (with_record {levels = others} {records = more} made rest) above within =
    (above, omega arith, made.lawful, lawful_records (n + 1) n high others more rest (omega arith) (omega arith))

-- no record of later levels answers an earlier level
unanswered_before : (m n : ℕ) (levels : List (List (List ℕ))) (records : List MadeRecord) (entries : List Entry) → AreMade n levels records
    → SaysSame records entries → m < n → answer_to m entries ≡ None
unanswered_before m n levels records [] made same before = refl
unanswered_before m n levels records (e ∷ es) none_left same before = absurd same
unanswered_before m n levels records (e ∷ es) (without {levels = others} none rest) same before =
    unanswered_before m (n + 1) others records (e ∷ es) rest same (omega arith)
unanswered_before m n levels records (e ∷ es) (with_record {levels = others} {records = more} made rest) same before =
    let number = same.0 in
    let other : e.level ≢ m = omega arith in
    passed m e es other ∙ unanswered_before m (n + 1) others more es rest same.2 (omega arith)

-- ---- the text
-- a text that spells records for the levels of a collection has no error
pub no_text_error : (levels_text text : List ℕ) (levels : List (List (List ℕ))) (entries : List Entry) → IsCollection levels_text levels
    → SpellsEntries text (length levels) entries → ((other : List (List (List ℕ))) → AreLevelsOf other (lines_in (without_mark levels_text)) → levels ≡ other)
    → ((fault : AnswersFault) → SpellsEntries text (length levels) entries → IsFirstAnswersFault text (length levels) fault → ⊥)
    → (error : AuditError) → IsTextError levels_text text error → ⊥
no_text_error levels_text text levels entries collection spelled one no_fault (Read w) is = is
no_text_error levels_text text levels entries collection spelled one no_fault Write is = is
no_text_error levels_text text levels entries collection spelled one no_fault (TooLong w) is = is
no_text_error levels_text text levels entries collection spelled one no_fault TooManyLevels (other, are, many) = grind arith
no_text_error levels_text text levels entries collection spelled one no_fault (Answers line why) (other, are, few, first) =
    no_fault (answers_fault_of line why) spelled (rw (one other are) first)
no_text_error levels_text text levels entries collection spelled one no_fault Memory is = is

-- ---- the numbers of lines don't matter
same_pattern : (said line : PatternLine) → boxes_and_seeds said ≡ boxes_and_seeds line → pattern_of said ≡ pattern_of line
same_pattern said line e = grind arith

same_patterns : (said : List PatternLine) (patterns : List MadePattern) → map boxes_and_seeds said ≡ map (λ p. boxes_and_seeds (said_pattern p)) patterns
    → patterns_of said ≡ patterns_of (map said_pattern patterns)
same_patterns [] [] e = refl
same_patterns [] (p ∷ ps) e = cc
same_patterns (x ∷ xs) [] e = cc
same_patterns (x ∷ xs) (p ∷ ps) e =
    let head : boxes_and_seeds x ≡ boxes_and_seeds (said_pattern p) = cc in
    let tail : map boxes_and_seeds xs ≡ map (λ p. boxes_and_seeds (said_pattern p)) ps = cc in
    ap₂ (λ (q : Pattern) (qs : List Pattern). q ∷ qs) (same_pattern x (said_pattern p) head) (same_patterns xs ps tail)

-- ---- counts
none_is_none : {answer : Option Body} {body : Body} → answer ≡ None → answer ≡ Some body → ⊥
none_is_none h k = grind arith

counted : (status : Status) (statuses : List Status) (k : ℕ) → 0 + cond (is_unsolvable status) 1 0 ≡ k
    → count_by is_unsolvable (status ∷ statuses) ≡ k + count_by is_unsolvable statuses
counted status statuses k one = sum_by-append (λ s. cond (is_unsolvable s) 1 0) (status ∷ []) statuses ∙ ap (λ n. n + count_by is_unsolvable statuses) one

one_more : (k : ℕ) → 1 + k ≡ suc k
one_more k = omega arith

no_more : (k : ℕ) → 0 + k ≡ k
no_more k = omega arith

-- ---- what is said of a level
-- a level without an answer is not unsolvable
without_answer : (rows : List (List ℕ)) (status : Status) → Says rows None status → is_unsolvable status ≡ false
without_answer rows status says = grind (arith, of_rows)

module _ (one_board : (rows : List (List ℕ)) (level other : Level) → IsBoardOf rows level → IsBoardOf rows other → level ≡ other)
    (not_refused : (rows : List (List ℕ)) (level : Level) (why : BoardFault) → IsBoardOf rows level → IsRefusal rows why → ⊥)
    (no_fault : ClosedHasNoFault) (no_zone_fault : RefutingHasNoFault) where
  -- on a board a closed list and a zone that refutes it say that it is unsolvable
  by_made : (level : Level) (made : Made) (said : Body) (status : Status) → IsAcceptedMade level made → SaysBody (body_of made) said
      → SaysOn level (Some said) status → is_unsolvable status ≡ true
  by_made level (Patterns patterns) (PatternLines lines) status list same (inl (closed, is)) = ap is_unsolvable is
  by_made level (Patterns patterns) (PatternLines lines) status list same (inr (fault, first, is)) =
      absurd (no_fault level lines fault (rw (same_patterns lines patterns.items same) list) first)
  by_made level (Patterns patterns) (LetterLines lines) status list same says = absurd same
  by_made level (Patterns patterns) (OneZone zone) status list same says = absurd same
  by_made level (Patterns patterns) (FirstBad line why) status list same says = absurd same
  by_made level (Zone zone) (OneZone line) status refutes same (inl (refuting, is)) = ap is_unsolvable is
  by_made level (Zone zone) (OneZone line) status refutes same (inr (fault, first, is)) = grind arith
  by_made level (Zone zone) (LetterLines lines) status refutes same says = absurd same
  by_made level (Zone zone) (PatternLines lines) status refutes same says = absurd same
  by_made level (Zone zone) (FirstBad line why) status refutes same says = absurd same

  -- a level with a made record is unsolvable by it
  by_record : (rows : List (List ℕ)) (body : MadeBody) (said : Body) (status : Status) → IsMadeBody rows body → SaysBody body said
      → Says rows (Some said) status → is_unsolvable status ≡ true
  by_record rows body said status made same says = elim (of_rows says) [
    | inl (why, refusal, is) ↦ absurd (not_refused rows made.level why made.legal refusal)
    | inr (level, board, says) ↦ by_made level made.made said status (rw (one_board rows made.level level made.legal board) at made.accepted)
        (rw made.body_is at same) says
  ]

  -- each level that has a record is unsolvable by it, and no other is
  pub accepted : (n : ℕ) (levels : List (List (List ℕ))) (records : List MadeRecord) (own entries : List Entry) (statuses : List Status)
      → AreMade n levels records → SaysSame records own → ((m : ℕ) → n ≤ m → answer_to m entries ≡ answer_to m own) → OfEach Says n levels entries statuses
      → AreAccepted n entries statuses × (count_by is_unsolvable statuses ≡ length records)
  accepted n levels records own entries [] none_left same answers reported = (tt, refl)
  accepted n levels records own entries (status ∷ statuses) none_left same answers reported = absurd reported
  accepted n levels records own entries [] (without none rest) same answers reported = absurd reported
  accepted n levels records own entries (status ∷ statuses) (without {rows = rows} {levels = others} none rest) same answers (says, after) =
      let here : answer_to n entries ≡ None = answers n (omega arith) ∙ unanswered_before n (n + 1) others records own rest same (omega arith) in
      let later = accepted (n + 1) others records own entries statuses rest same (λ m above. answers m (omega arith)) after in
      let not_here = without_answer rows status (rw here at says) in (
        (λ body is. absurd (none_is_none (here) is), later.0),
        counted status statuses 0 (ap (λ b. 0 + cond b 1 0) not_here) ∙ no_more (count_by is_unsolvable statuses) ∙ later.1,
      )
  accepted n levels records [] entries statuses (with_record made rest) same answers reported = absurd same
  accepted n levels records (e ∷ es) entries [] (with_record made rest) same answers reported = absurd reported
  accepted n levels records (e ∷ es) entries (status ∷ statuses)
      (with_record {rows = rows} {levels = others} {body = body} {records = more} made rest) same answers (says, after) =
      let number = same.0 in
      let here : answer_to n entries ≡ Some e.body = answers n (omega arith) ∙ answered n e es number in
      let yes = by_record rows body e.body status made same.1 (rw here at says) in
      let later = accepted (n + 1) others more es entries statuses rest same.2
      (λ m above. let other : e.level ≢ m = omega arith in answers m (omega arith) ∙ passed m e es other) after in
      ((λ _ _. yes, later.0), counted status statuses 1 (ap (λ b. 0 + cond b 1 0) yes) ∙ ap (λ k. 1 + k) later.1 ∙ one_more (length more))
