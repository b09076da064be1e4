-- C gets the entries of the statuses, in order, up to the last one that there is space for.
-- So what a status means is what its entry claims, and the words of its line are what its entry spells.
use Rattle.std.proofs.Common.{◌≡◌, ◌⊎◌, ℕ, zero, suc, ◌+◌, ◌<◌, List, [], ◌∷◌, ◌++◌, length, min, get_or, slice_set, take, drop, Option, Some, refl, sym, ◌∙◌, ap, subst, inl, inr, arith}
use Rattle.std.specs.Prelude.{map}
use Rattle.std.specs.List.{slice_get}
use Rattle.std.proofs.Math.Nat.{min-le_left, min-le_right}
use Rattle.std.proofs.lemmas.List.{length-map}
use Rattle.std.proofs.lemmas.Option.{slice_get_within}
use Rattle.answers.specs.Body.{Body}
use Rattle.report.specs.Answer.{answer_to}
use Rattle.report.specs.Means.{IsSolvedBy, Means}
use Rattle.report.specs.Printed.{HasWords}
use Rattle.report.specs.Report.{AreStatuses, IsReport}
use Rattle.report.specs.Summary.{summary_of}
use Rattle.report.specs.Unsolvable.{IsUnsolvable}
use Rattle.report.specs.Words.{report_text, words_of}
use Rattle.report.specs.declared.status.Status.{Status}
use Rattle.report.specs.declared.status.Status.TheVariants.{Solved, Unsolvable, UnsolvableZone, Refused, Missing}
use Rattle.report.specs.declared.summary.Summary.{Summary}
use Rattle.report.proofs.Reports.{each_at}
use Rattle.report.proofs.Statuses.{report_by}
use Rattle.sokoaudit_c.specs.Lines.{AreRight, SpellReport, tally_of}
use Rattle.sokoaudit_c.specs.Numbers.{numbers_of, spelled}
use Rattle.sokoaudit_c.specs.Outcome.{Holds}
use Rattle.sokoaudit_c.specs.declared.numbers.Line.{Line}
use Rattle.sokoaudit_c.proofs.Spelled.{refused_status, spelled_words}

-- ---- the entry at a position
written : {A : Type 0} (old xs : List A) (n : ℕ) (x : A) → n < length xs → slice_get (take (length old) xs ++ drop (length xs) old) n ≡ Some x
    → slice_get xs n ≡ Some x
written old [] n x below there = absurd (omega arith)
written [] (y ∷ xs) n x below there = absurd cc
written (o ∷ old) (y ∷ xs) zero x below there = there
written (o ∷ old) (y ∷ xs) (suc n) x below there = written old xs n x (omega arith) there

mapped : {A B : Type 0} (f : A → B) (xs : List A) (n : ℕ) (y : B) → slice_get (map f xs) n ≡ Some y → (x : A) × (slice_get xs n ≡ Some x) × (f x ≡ y)
mapped f [] n y there = absurd cc
mapped f (x ∷ xs) zero y there = (x, refl, cc)
mapped f (x ∷ xs) (suc n) y there = mapped f xs n y there

-- an entry at the position of a level is the entry of its status
entry_at : (old new : List Line) (statuses : List Status) → Holds old new (map numbers_of statuses) → (n : ℕ) (line : Line) → n < length statuses
    → slice_get new n ≡ Some line → (status : Status) × (slice_get statuses n ≡ Some status) × (numbers_of status ≡ line)
entry_at old new statuses holds n line below there = grind (arith, length-map, mapped, written)

-- ---- the entries as they are written

next_entry : {A B : Type 0} (f : A → B) (xs : List A) (old : List B) (k : ℕ) (d : A) → k < length xs → k < length old
    → slice_set (take k (map f xs) ++ drop k old) k (f (get_or xs k d)) ≡ take (suc k) (map f xs) ++ drop (suc k) old
next_entry f [] old k d below space = absurd (omega arith)
next_entry f (x ∷ xs) [] k d below space = absurd (omega arith)
next_entry f (x ∷ xs) (o ∷ old) zero d below space = refl
next_entry f (x ∷ xs) (o ∷ old) (suc k) d below space = ap (λ ls. f x ∷ ls) (next_entry f xs old k d (omega arith) (omega arith))

-- one more entry is written at its position, over the old one
pub entry_added : {A B : Type 0} (f : A → B) (xs : List A) (old lines : List B) (k taken : ℕ) (d : A) (x : B) → k < taken → taken ≡ min (length xs) (length old)
    → lines ≡ take k (map f xs) ++ drop k old → x ≡ f (get_or xs k d) → slice_set lines k x ≡ take (k + 1) (map f xs) ++ drop (k + 1) old
entry_added {A = A} {B = B} f xs old lines k taken d x below space so_far is = grind (arith, min-le_left, min-le_right, next_entry)

-- ---- what an entry claims
right_solved : (rows : List (List ℕ)) (answer : Option Body) (status : Status) → Means rows answer status → (numbers_of status).status ≡ 1
    → IsSolvedBy rows answer (tally_of (numbers_of status))
right_solved rows answer (Solved tally) means is = means
right_solved rows answer (Unsolvable k) means is = absurd (omega arith)
right_solved rows answer (UnsolvableZone k) means is = absurd (omega arith)
right_solved rows answer (Refused why) means is = grind (arith, refused_status)
right_solved rows answer Missing means is = absurd (omega arith)

right_unsolvable : (rows : List (List ℕ)) (answer : Option Body) (status : Status) → Means rows answer status
    → ((numbers_of status).status ≡ 2) ⊎ ((numbers_of status).status ≡ 3) → IsUnsolvable rows
right_unsolvable rows answer (Solved tally) means (inl is) = absurd (omega arith)
right_unsolvable rows answer (Solved tally) means (inr is) = absurd (omega arith)
right_unsolvable rows answer (Unsolvable k) means is = means
right_unsolvable rows answer (UnsolvableZone k) means is = means
right_unsolvable rows answer (Refused why) means (inl is) = grind (arith, refused_status)
right_unsolvable rows answer (Refused why) means (inr is) = grind (arith, refused_status)
right_unsolvable rows answer Missing means (inl is) = absurd (omega arith)
right_unsolvable rows answer Missing means (inr is) = absurd (omega arith)

-- the entry of a level is the entry of a status that the level has
module _ (lt at : List ℕ) (statuses : List Status) (are : AreStatuses lt at statuses) (old new : List Line)
    (holds : Holds old new (map numbers_of statuses)) where
  meant : (before : ℕ) (rows : List (List ℕ)) (line : Line) → slice_get are.levels before ≡ Some rows → slice_get new before ≡ Some line
      → (status : Status) × Means rows (answer_to (before + 1) are.entries) status × (numbers_of status ≡ line)
  meant before rows line level there = grind (arith, each_at, entry_at, slice_get_within)

  pub are_right : AreRight are.levels are.entries new
  are_right = record {
    solved = λ before rows line level there is.
        let (status, means, line_is) = meant before rows line level there in
        rw line_is at (right_solved rows (answer_to (before + 1) are.entries) status means (ap (λ (l : Line). l.status) line_is ∙ is));
    unsolvable = λ before rows line level there is.
        let (status, means, line_is) = meant before rows line level there in
        right_unsolvable rows (answer_to (before + 1) are.entries) status means (rw line_is is);
  }

  pub spell_report :
      ((lt at text other : List ℕ) (summary others : Summary) → IsReport lt at text summary → IsReport lt at other others → (text ≡ other) × (summary ≡ others))
      → ((statuses : List Status) (before : ℕ) (status : Status) → slice_get statuses before ≡ Some status
      → HasWords (report_text statuses) before (words_of status))
      → SpellReport lt at new
  spell_report one words text summary report before line below there =
      let mine = report_by lt at statuses (report_text statuses) (summary_of statuses) are refl refl in
      let same = one lt at text (report_text statuses) summary (summary_of statuses) report mine in
      let count = ap (λ (s : Summary). s.levels) same.1 in
      let within : before < length statuses = omega arith in
      let (status, got, is) = entry_at old new statuses holds before line within there in
      rw (sym (spelled_words status) ∙ ap spelled is) at (subst (λ (t : List ℕ). HasWords t before (words_of status)) (sym same.0) (words statuses before status got))
