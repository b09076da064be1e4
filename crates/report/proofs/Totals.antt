-- The last line of a report counts the lines of each kind.
-- The first word of a level's line fixes the kind of its status, so as many lines begin with the word as levels have the kind.
use Rattle.std.proofs.Common.{◌≡◌, ◌+◌, ◌==◌, ◌∙◌, ℕ, Bool, cond, List, [], ◌∷◌, ◌++◌, Option, None, Some, length, refl, sym, ap, ap₂, codes}
use Rattle.std.specs.Prelude.{count_by, decimal, map}
use Rattle.std.specs.List.{slice_get, starts_with}
use Rattle.std.specs.Option.{option_map}
use Rattle.std.proofs.lemmas.List.{length-map}
use Rattle.std.proofs.lemmas.List.Sums.{sum_by-cons}
use Rattle.std.proofs.lemmas.Option.{slice_get-map}
use Rattle.report.specs.Printed.{count_of, total_of}
use Rattle.report.specs.Summary.{is_missing, is_refused, is_solved, is_unsolvable, summary_of}
use Rattle.report.specs.Words.{Text, words_of}
use Rattle.report.specs.declared.summary.Summary.{Summary}
use Rattle.report.specs.declared.status.Status.{Status}
use Rattle.report.specs.declared.status.Status.TheVariants.{Solved, Unsolvable, UnsolvableZone, Refused, Missing}

abbrev begins : Text → Status → Bool
begins text status = starts_with ◌==◌ (words_of status) text

solved_begins : (status : Status) → begins (codes "solved ") status ≡ is_solved status
solved_begins (Solved t) = refl
solved_begins (Unsolvable k) = refl
solved_begins (UnsolvableZone k) = refl
solved_begins (Refused why) = refl
solved_begins Missing = refl

unsolvable_begins : (status : Status) → begins (codes "unsolvable ") status ≡ is_unsolvable status
unsolvable_begins (Solved t) = refl
unsolvable_begins (Unsolvable k) = refl
unsolvable_begins (UnsolvableZone k) = refl
unsolvable_begins (Refused why) = refl
unsolvable_begins Missing = refl

refused_begins : (status : Status) → begins (codes "refused ") status ≡ is_refused status
refused_begins (Solved t) = refl
refused_begins (Unsolvable k) = refl
refused_begins (UnsolvableZone k) = refl
refused_begins (Refused why) = refl
refused_begins Missing = refl

missing_begins : (status : Status) → begins (codes "missing") status ≡ is_missing status
missing_begins (Solved t) = refl
missing_begins (Unsolvable k) = refl
missing_begins (UnsolvableZone k) = refl
missing_begins (Refused why) = refl
missing_begins Missing = refl

-- as many texts begin with the word as statuses are of the kind
counted : (text : Text) (is : Status → Bool) → ((status : Status) → begins text status ≡ is status) → (statuses : List Status)
    → count_of text (map words_of statuses) ≡ count_by is statuses
counted text is same [] = refl
counted text is same (s ∷ ss) =
    let one : cond (begins text s) 1 0 ≡ cond (is s) 1 0 = ap {B = ℕ} (λ b. cond b 1 0) (same s) in
    sum_by-cons (λ own. cond (starts_with ◌==◌ own text) 1 0) (words_of s) (map words_of ss) ∙ ap₂ {C = ℕ} (λ a b. a + b) one (counted text is same ss)
    ∙ sym (sum_by-cons (λ t. cond (is t) 1 0) s ss)

-- the last line with these numbers, without its LF
abbrev pub bare_total : Summary → Text
bare_total s = codes "total " ++ decimal s.levels ++ codes " solved " ++ decimal s.solved ++ codes " unsolvable " ++ decimal s.unsolvable ++ codes " refused "
    ++ decimal s.refused ++ codes " missing " ++ decimal s.missing

-- the last line of a report is the total of the levels' lines
pub total_is : (statuses : List Status) → bare_total (summary_of statuses) ≡ total_of (map words_of statuses)
total_is statuses = rw (
  length-map statuses words_of,
  counted (codes "solved ") is_solved solved_begins statuses,
  counted (codes "unsolvable ") is_unsolvable unsolvable_begins statuses,
  counted (codes "refused ") is_refused refused_begins statuses,
  counted (codes "missing") is_missing missing_begins statuses,
) refl

-- each of the words are those of a status
pub words_at : (statuses : List Status) (i : ℕ) (words : Text) → slice_get (map words_of statuses) i ≡ Some words
    → (status : Status) × (slice_get statuses i ≡ Some status) × (words_of status ≡ words)
words_at statuses i words is = found (slice_get statuses i) refl (sym (slice_get-map words_of statuses i) ∙ is)
  where
    found : (at : Option Status) → slice_get statuses i ≡ at → option_map words_of at ≡ Some words
        → (status : Status) × (slice_get statuses i ≡ Some status) × (words_of status ≡ words)
    found None at e = cc
    found (Some status) at e = (status, at, cc)
