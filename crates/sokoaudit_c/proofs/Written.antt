-- Entries that are written one after the other, up to the last one that there is space for.
use Rattle.std.proofs.Common.{◌≡◌, ℕ, suc, ◌<◌, ◌≤◌, List, [], ◌∷◌, ◌++◌, length, take, drop, slice_set, ◌∙◌, ap, arith, take_all}
use Rattle.std.proofs.lemmas.List.{drop_all}
use Rattle.sokoaudit_c.specs.Outcome.{Holds}

pub none_yet : {A : Type 0} (old : List A) → Holds old old []
none_yet old = grind arith

put : {A : Type 0} (old found : List A) (span : A) → length found < length old → slice_set (take (length old) found ++ drop (length found) old) (length found) span
    ≡ take (length old) (found ++ span ∷ []) ++ drop (length (found ++ span ∷ [])) old
put [] found span space = absurd (omega arith)
put (o ∷ old) [] span space = grind (arith, take_all)
put (o ∷ old) (f ∷ found) span space = ap (λ l. f ∷ l) (put old found span (omega arith))

left_out : {A : Type 0} (old found : List A) (span : A) → length old ≤ length found → take (length old) found ++ drop (length found) old
    ≡ take (length old) (found ++ span ∷ []) ++ drop (length (found ++ span ∷ [])) old
left_out [] found span full = grind (arith, drop_all)
left_out (o ∷ old) [] span full = absurd (omega arith)
left_out (o ∷ old) (f ∷ found) span full = ap (λ l. f ∷ l) (left_out old found span (omega arith))

long_as : {A : Type 0} (old found : List A) → length (take (length old) found ++ drop (length found) old) ≡ length old
long_as [] found = grind (arith, drop_all)
long_as (o ∷ old) [] = grind arith
long_as (o ∷ old) (f ∷ found) = ap suc (long_as old found)

pub one_written : {A : Type 0} (old new found : List A) (count : ℕ) (span : A) → count ≡ length found → Holds old new found → count < length new
    → Holds old (slice_set new count span) (found ++ span ∷ [])
one_written old new found count span is holds space =
    let long = ap length holds ∙ long_as old found in
    rw (holds, is) (put old found span (omega arith))

pub none_written : {A : Type 0} (old new found : List A) (count : ℕ) (span : A) → count ≡ length found → Holds old new found → length new ≤ count
    → Holds old new (found ++ span ∷ [])
none_written old new found count span is holds full =
    let long = ap length holds ∙ long_as old found in
    holds ∙ left_out old found span (omega arith)
