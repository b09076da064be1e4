-- The report as it grows, level by level.
-- The numbers of the records rise. So the record of a level is the next one or there is none, and the records before it
-- answer no later level. The loop keeps a function: put the statuses so far before any statuses of the levels that are
-- left, and you have the statuses of all levels. With each level the function needs the statuses of one level fewer.
use Rattle.std.proofs.Common.{◌≡◌, ◌≢◌, ℕ, zero, suc, ◌+◌, ◌<◌, ◌≤◌, Bool, cond, Option, List, [], ◌∷◌, ◌++◌, length, get_or, take, drop, Some, None, refl, sym, ◌∙◌, ap, subst, arith, append_assoc}
use Rattle.std.specs.Prelude.{count_by, map}
use Rattle.std.specs.List.{slice_get}
use Rattle.std.proofs.Math.Seq.{drop-cons}
use Rattle.std.proofs.Math.ListN.{length-append}
use Rattle.std.proofs.lemmas.List.{drop-map, append-nil, length-take-le, take_more}
use Rattle.std.proofs.lemmas.List.Sums.{sum_by-append}
use Rattle.std.proofs.lemmas.Bool.Decides.{eqb_tells}
use Rattle.std.proofs.lemmas.Bool.{ne_eqb}
use Rattle.answers.specs.Grammar.{RiseWithin}
use Rattle.answers.specs.Body.{Body, Entry}
use Rattle.answers.specs.Reading.{entry_of}
use Rattle.answers.specs.declared.record_text.RecordText.{RecordText}
use Rattle.report.specs.Answer.{answer_to}
use Rattle.report.specs.Report.{OfEach}
use Rattle.report.specs.Summary.{is_solved, is_unsolvable, is_refused, is_missing, summary_of, with_status}
use Rattle.report.specs.Words.{Text, line_of, lines_from}
use Rattle.report.specs.declared.status.Status.{Status}
use Rattle.report.specs.declared.status.Status.TheVariants.{Solved, Unsolvable, UnsolvableZone, Refused, Missing}
use Rattle.report.specs.declared.summary.Summary.{Summary}

-- ---- the record of a level
-- a list from position k on begins with its item at k
pub drop_at : {X : Type 0} (xs : List X) (k : ℕ) (x : X) → k < length xs → x ≡ get_or xs k x → drop k xs ≡ x ∷ drop (k + 1) xs
drop_at xs k x h e = grind (arith, drop-cons)

-- the entries from position k on begin with the entry of record k
pub next_record : (records : List RecordText) (k : ℕ) (r : RecordText) → k < length records → r ≡ get_or records k r
    → drop k (map entry_of records) ≡ entry_of r ∷ drop (k + 1) (map entry_of records)
next_record records k r h e = grind (arith, drop-map, drop_at)

-- the first record answers its own level
pub answered : (n : ℕ) (e : Entry) (es : List Entry) → e.level ≡ n → answer_to n (e ∷ es) ≡ Some e.body
answered n e es is = grind (arith, eqb_tells)

-- an entry of another level is passed over
pub passed : (n : ℕ) (e : Entry) (es : List Entry) → e.level ≢ n → answer_to n (e ∷ es) ≡ answer_to n es
passed n e es other = search (ne_eqb)

-- records above a number answer no level up to that number
pub unanswered : (n low high : ℕ) (es : List Entry) → RiseWithin low high es → n ≤ low → answer_to n es ≡ None
unanswered n low high [] rise h = refl
unanswered n low high (e ∷ es) (above, within, rest) h =
    let other : e.level ≢ n = omega arith in passed n e es other ∙ unanswered n e.level high es rest (omega arith)

-- the next record has a later number
pub rise_on : (low high : ℕ) (e : Entry) (es : List Entry) → RiseWithin low high (e ∷ es) → e.level ≢ low + 1 → RiseWithin (low + 1) high (e ∷ es)
rise_on low high e es (above, within, rest) other = (omega arith, within, rest)

-- ---- the lines and the numbers
pub lines_more : (n : ℕ) (ss : List Status) (s : Status) → lines_from n (ss ++ s ∷ []) ≡ lines_from n ss ++ line_of (n + length ss) s
lines_more n [] s = grind (arith, append-nil)
lines_more n (x ∷ ss) s =
    let there : n + 1 + length ss ≡ n + suc (length ss) = omega arith in
    ap (λ l. line_of n x ++ l) (lines_more (n + 1) ss s ∙ ap (λ m. lines_from (n + 1) ss ++ line_of m s) there)
    ∙ sym (append_assoc (line_of n x) (lines_from (n + 1) ss) (line_of (n + suc (length ss)) s))

-- the line of the next status, after the lines of the statuses before it
pub line_added : (statuses : List Status) (k : ℕ) (d : Status) (old new : Text) → k < length statuses → old ≡ lines_from 1 (take k statuses)
    → new ≡ old ++ line_of (k + 1) (get_or statuses k d) → new ≡ lines_from 1 (take (k + 1) statuses)
line_added statuses k d old new below so_far added =
    let here : k ≤ length statuses = omega arith in
    let number : 1 + length (take k statuses) ≡ k + 1 = let so = length-take-le k statuses here in omega arith in
    let status = get_or statuses k d in
    added ∙ ap (λ t. t ++ line_of (k + 1) status) so_far
    ∙ sym (ap (lines_from 1) (take_more statuses k d below) ∙ lines_more 1 (take k statuses) status
    ∙ ap (λ n. lines_from 1 (take k statuses) ++ line_of n status) number)

count_more : (p : Status → Bool) (ss : List Status) (s : Status) (k : ℕ) → cond (p s) 1 0 ≡ k → count_by p (ss ++ s ∷ []) ≡ count_by p ss + k
count_more p ss s k one = grind (arith, sum_by-append)

summary_is : (a b c d e a' b' c' d' e' : ℕ) → a ≡ a' → b ≡ b' → c ≡ c' → d ≡ d' → e ≡ e' →
    (let s : Summary = record { levels = a; solved = b; unsolvable = c; refused = d; missing = e } in
    s) ≡ record { levels = a'; solved = b'; unsolvable = c'; refused = d'; missing = e' }
summary_is a b c d e a' b' c' d' e' p q r t u = search

-- a summary counts one more status of each kind
counted : (ss : List Status) (s : Status) (a b c d : ℕ) → cond (is_solved s) 1 0 ≡ a → cond (is_unsolvable s) 1 0 ≡ b → cond (is_refused s) 1 0 ≡ c
    → cond (is_missing s) 1 0 ≡ d →
    summary_of (ss ++ s ∷ []) ≡ record {
      levels = length ss + 1;
      solved = count_by is_solved ss + a;
      unsolvable = count_by is_unsolvable ss + b;
      refused = count_by is_refused ss + c;
      missing = count_by is_missing ss + d;
    }
counted ss s a b c d p q r t = search (summary_is, length-append, count_more)

pub summary_more : (ss : List Status) (s : Status) → summary_of (ss ++ s ∷ []) ≡ with_status (summary_of ss) s
summary_more ss (Solved t) = grind (arith, counted, summary_is)
summary_more ss (Unsolvable k) = grind (arith, counted, summary_is)
summary_more ss (UnsolvableZone k) = grind (arith, counted, summary_is)
summary_more ss (Refused why) = grind (arith, counted, summary_is)
summary_more ss Missing = grind (arith, counted, summary_is)

-- ---- the levels
pub each_more : (Holds : List (List ℕ) → Option Body → Status → Type 0) (levels : List (List (List ℕ))) (entries : List Entry) (k : ℕ) (rows : List (List ℕ))
    (status : Status) (so_far : List Status) → drop k levels ≡ rows ∷ drop (k + 1) levels → Holds rows (answer_to (k + 1) entries) status
    → ((rest : List Status) → OfEach Holds (k + 1) (drop k levels) entries rest → OfEach Holds 1 levels entries (so_far ++ rest))
    → (rest : List Status) → OfEach Holds (k + 1 + 1) (drop (k + 1) levels) entries rest → OfEach Holds 1 levels entries ((so_far ++ status ∷ []) ++ rest)
each_more Holds levels entries k rows status so_far next holds before rest after =
    subst (OfEach Holds 1 levels entries) (sym (append_assoc so_far (status ∷ []) rest)) (before (status ∷ rest) (rw next (holds, after)))

-- there are as many statuses as levels
pub each_long : (Holds : List (List ℕ) → Option Body → Status → Type 0) (n : ℕ) (levels : List (List (List ℕ))) (entries : List Entry) (statuses : List Status)
    → OfEach Holds n levels entries statuses → length statuses ≡ length levels
each_long Holds n [] entries [] each = refl
each_long Holds n [] entries (s ∷ statuses) each = absurd each
each_long Holds n (rows ∷ levels) entries [] each = absurd each
each_long Holds n (rows ∷ levels) entries (s ∷ statuses) (_, rest) = ap (λ k. suc k) (each_long Holds (n + 1) levels entries statuses rest)

-- the status at position i holds of the rows at position i and of the answer to their level
pub each_at : (Holds : List (List ℕ) → Option Body → Status → Type 0) (n i : ℕ) (levels : List (List (List ℕ))) (entries : List Entry) (statuses : List Status)
    (rows : List (List ℕ)) → OfEach Holds n levels entries statuses → slice_get levels i ≡ Some rows
    → (status : Status) × (slice_get statuses i ≡ Some status) × Holds rows (answer_to (i + n) entries) status
each_at Holds n i [] entries statuses rows each there = absurd cc
each_at Holds n i (r ∷ levels) entries [] rows each there = absurd each
each_at Holds n zero (r ∷ levels) entries (s ∷ statuses) rows (holds, _) there =
    let number : n ≡ 0 + n = omega arith in
    let same : r ≡ rows = cc in
    (s, refl, rw number at (rw same at holds))
each_at Holds n (suc i) (r ∷ levels) entries (s ∷ statuses) rows (_, rest) there =
    let number : i + (n + 1) ≡ suc i + n = omega arith in
    let (status, line, holds) = each_at Holds (n + 1) i levels entries statuses rows rest there in
    (status, line, rw number at holds)
