-- What reading gives for a whole text: its first line decides the version, and the kept lines the rest. So reading
-- returns entries exactly if the text spells them, and a fault exactly if that is its first.
use Rattle.std.proofs.Common.{◌≡◌, ℕ, ◌+◌, ◌⊎◌, Bool, true, false, cond, List, [], ◌∷◌, length, Option, Some, None, Result, Ok, Err, refl, sym, ap, subst, ◌∙◌, inl, inr, ⊎_elim, arith}
use Rattle.std.specs.Prelude.{codes, drop, filter, IfOk, IfErr, MatchResult}
use Rattle.std.specs.Str.{bytes_eq}
use Rattle.std.proofs.lemmas.Slice.Eq.{bytes_eq-Decides}
use Rattle.std.proofs.lemmas.List.{nil_from_length}
use Rattle.lines.specs.Lines.{IsFirstLine, lines_in}
use Rattle.lines.proofs.Cuts.{first_lines, lines_in-nil}
use Rattle.answers.specs.declared.fault.AnswersFault.{AnswersFault}
use Rattle.answers.specs.declared.fault.AnswersFault.TheVariants.{Header, Level, Order, Unknown, Kind, Unclosed, Memory}
use Rattle.answers.specs.declared.record_text.RecordText.{RecordText}
use Rattle.answers.specs.Grammar.{is_kept, kept_lines, header_text, numbered, HasHeader, SpellsEntries}
use Rattle.answers.specs.Held.{kept_after}
use Rattle.answers.specs.Records.{AreRecordsFrom, HasRecords}
use Rattle.answers.specs.Body.{Entry}
use Rattle.answers.specs.FirstFault.{IsFirstAnswersFault}
use Rattle.answers.specs.Reading.{version_in, header_of, records_under, outcome, Fails, Gives}
use Rattle.answers.proofs.Runs.{kept_found, kept_fault, ok_no_err, same_Ok, same_Err}
use Rattle.answers.proofs.BlockRuns.{kept_again, fault_again}

-- ---- the header

record IsHeader (text : List ℕ) (version : ℕ) : Type 0 where
  known : (version ≡ 1) ⊎ (version ≡ 2)
  spelled : text ≡ header_text version

choice : (a b : Bool) {version : ℕ} → cond a (Some 1) (cond b (Some 2) None) ≡ Some version → ((a ≡ true) × (version ≡ 1)) ⊎ ((b ≡ true) × (version ≡ 2))
choice true b e = inl (refl, cc)
choice false true e = inr (refl, cc)
choice false false e = absurd cc

header_found : {text : List ℕ} {version : ℕ} → version_in text ≡ Some version → IsHeader text version
unfolding version_in
header_found {text} e = ⊎_elim
    (λ h. rw h.1 (record { known = inl refl; spelled = (bytes_eq-Decides text (codes "sokoban-answers 1")).0 h.0 }))
    (λ h. rw h.1 (record { known = inr refl; spelled = (bytes_eq-Decides text (codes "sokoban-answers 2")).0 h.0 }))
    (choice (bytes_eq text (codes "sokoban-answers 1")) (bytes_eq text (codes "sokoban-answers 2")) e)

header_one : version_in (header_text 1) ≡ Some 1
unfolding version_in
header_one = refl

header_two : version_in (header_text 2) ≡ Some 2
unfolding version_in
header_two = refl

header_read : {version : ℕ} → (version ≡ 1) ⊎ (version ≡ 2) → version_in (header_text version) ≡ Some version
header_read (inl e) = search (header_one)
header_read (inr e) = search (header_two)

has_header : {text : List ℕ} (lines : List (List ℕ)) {version : ℕ} → lines_in text ≡ lines → header_of lines ≡ Some version → HasHeader text version
has_header [] is e = absurd cc
has_header (first ∷ others) is e =
    let h = header_found e in
    record { known = h.known; others = others; first = is ∙ ap (λ l. l ∷ others) h.spelled }

header_is : {text : List ℕ} {version : ℕ} → HasHeader text version → header_of (lines_in text) ≡ Some version
header_is h = ap header_of h.first ∙ header_read h.known

-- Reading goes on after the first line, by its version.
pub outcome_after : (text header below : List ℕ) (levels : ℕ) → IsFirstLine text header below
    → outcome text levels ≡ records_under (version_in header) levels (1 + length (lines_in below)) (kept_after 1 below)
outcome_after text header below levels first =
    ap (λ ls. records_under (header_of ls) levels (length ls) (filter is_kept (drop 1 (numbered 1 ls)))) (first_lines text header below first)
    ∙ ap (λ n. records_under (version_in header) levels n (kept_after 1 below)) (omega arith)

pub outcome_none : (text : List ℕ) (levels : ℕ) → length text ≡ 0 → outcome text levels ≡ Err (Header 1)
outcome_none text levels none =
    ap (λ ls. records_under (header_of ls) levels (length ls) (filter is_kept (drop 1 (numbered 1 ls)))) (ap lines_in (nil_from_length text none) ∙ lines_in-nil)

one_version : {text : List ℕ} {a b : ℕ} → header_of (lines_in text) ≡ Some a → HasHeader text b → a ≡ b
one_version e h = let read = header_is h in cc

-- The records below the header are those of the text.
pub has_records : {A : Type 0} (items : A → List RecordText) (text header below : List ℕ) (version : ℕ) (r : Result A AnswersFault)
    → IsFirstLine text header below → version_in header ≡ Some version → IfOk r (λ v. AreRecordsFrom version 1 below (items v))
    → IfOk r (λ v. HasRecords text (items v))
has_records items text header below version (Ok v) first read are =
    let read_here : header_of (lines_in text) ≡ Some version = ap header_of (first_lines text header below first) ∙ read in
    record { header = header; below = below; first = first; are = λ other h. rw (← one_version read_here h) are }
has_records items text header below version (Err f) first read are = tt

-- ---- the whole text

by_version : (text : List ℕ) (levels : ℕ) (entries : List Entry) (o : Option ℕ) → header_of (lines_in text) ≡ o
    → records_under o levels (length (lines_in text)) (kept_lines text) ≡ Ok entries → SpellsEntries text levels entries
by_version text levels entries None is e = absurd (ok_no_err (sym e))
by_version text levels entries (Some version) is e =
    let h = kept_found version levels (length (lines_in text)) (kept_lines text) e in
    record { version = version; header = has_header (lines_in text) refl is; blocks = h.0; rise = h.1 }

-- a text spells the entries that reading gives
pub outcome_found : {text : List ℕ} {levels : ℕ} {entries : List Entry} → outcome text levels ≡ Ok entries → SpellsEntries text levels entries
outcome_found e = search (by_version)

-- reading gives the entries that a text spells
pub outcome_again : {text : List ℕ} {levels : ℕ} {entries : List Entry} → SpellsEntries text levels entries → outcome text levels ≡ Ok entries
outcome_again {text} {levels} h =
    ap (λ o. records_under o levels (length (lines_in text)) (kept_lines text)) (header_is h.header)
    ∙ kept_again h.version levels (length (lines_in text)) (kept_lines text) h.blocks h.rise

fault_by_version : (text : List ℕ) (levels : ℕ) (f : AnswersFault) (o : Option ℕ) → header_of (lines_in text) ≡ o
    → records_under o levels (length (lines_in text)) (kept_lines text) ≡ Err f → IsFirstAnswersFault text levels f
fault_by_version text levels f None is e = inl ((λ version h. let some = header_is h in absurd cc), sym (same_Err e))
fault_by_version text levels f (Some version) is e = inr (
  version,
  has_header (lines_in text) refl is,
  kept_fault version levels (length (lines_in text)) (kept_lines text) e,
)

-- a fault that reading gives is the first fault of the text
pub outcome_fault : {text : List ℕ} (levels : ℕ) {f : AnswersFault} → outcome text levels ≡ Err f → IsFirstAnswersFault text levels f
outcome_fault levels e = search (fault_by_version)

no_header : {text : List ℕ} (o : Option ℕ) → header_of (lines_in text) ≡ o → ((version : ℕ) → ¬ HasHeader text version) → header_of (lines_in text) ≡ None
no_header None is none = is
no_header {text} (Some version) is none = absurd (none version (has_header (lines_in text) refl is))

-- reading gives the first fault of a text
pub outcome_refused : {text : List ℕ} (levels : ℕ) {f : AnswersFault} → IsFirstAnswersFault text levels f → outcome text levels ≡ Err f
outcome_refused {text} levels (inl h) =
    ap (λ o. records_under o levels (length (lines_in text)) (kept_lines text)) (no_header (header_of (lines_in text)) refl h.0) ∙ ap Err (sym h.1)
outcome_refused {text} levels {f} (inr h) =
    ap (λ o. records_under o levels (length (lines_in text)) (kept_lines text)) (header_is h.1)
    ∙ fault_again h.0 levels (length (lines_in text)) (kept_lines text) f h.2

-- ---- one reading

-- a text spells one list of entries at most
pub one_spelling : (text : List ℕ) (levels : ℕ) (entries others : List Entry) → SpellsEntries text levels entries → SpellsEntries text levels others
    → entries ≡ others
one_spelling text levels entries others h k = same_Ok (sym (outcome_again h) ∙ outcome_again k)

-- a text that is spelled has no fault
pub spelled_not_refused : (text : List ℕ) (levels : ℕ) (entries : List Entry) (f : AnswersFault) → SpellsEntries text levels entries
    → IsFirstAnswersFault text levels f → ⊥
spelled_not_refused text levels entries f h k = ok_no_err (sym (outcome_again h) ∙ outcome_refused levels k)

-- ---- what a call answers

-- a fault other than `Memory` is the one that reading gives
data FailsAs (f : AnswersFault) {B : Type 0} (given : Result B AnswersFault) : Type 0 where
  by_memory : f ≡ Memory → FailsAs f given
  by_text : given ≡ Err f → FailsAs f given

fails_as : {B : Type 0} (f : AnswersFault) (given : Result B AnswersFault) → Fails f given → FailsAs f given
fails_as Memory given h = by_memory refl
fails_as (Header n) given h = by_text h
fails_as (Level n) given h = by_text h
fails_as (Order n) given h = by_text h
fails_as (Unknown n) given h = by_text h
fails_as (Kind n) given h = by_text h
fails_as (Unclosed n) given h = by_text h

pub fails_is : {B : Type 0} (f : AnswersFault) (given : Result B AnswersFault) → given ≡ Err f → Fails f given
fails_is Memory given h = tt
fails_is (Header n) given h = h
fails_is (Level n) given h = h
fails_is (Order n) given h = h
fails_is (Unknown n) given h = h
fails_is (Kind n) given h = h
fails_is (Unclosed n) given h = h

-- a call that returns the first fault of the text, or `Memory`, returns what reading gives
pub fails_by : {text : List ℕ} (levels : ℕ) {f : AnswersFault} → (f ≡ Memory) ⊎ IsFirstAnswersFault text levels f → Fails f (outcome text levels)
fails_by {text} levels (inl e) = subst (λ x. Fails x (outcome text levels)) (sym e) tt
fails_by levels (inr h) = search (fails_is, outcome_refused)

only_err : (f : AnswersFault) (entries : List Entry) (given : Result (List Entry) AnswersFault) → given ≡ Ok entries → FailsAs f given → f ≡ Memory
only_err f entries given e (by_memory h) = h
only_err f entries given e (by_text h) = search

exact_err : (text : List ℕ) (levels : ℕ) (f : AnswersFault) → FailsAs f (outcome text levels) → (f ≡ Memory) ⊎ IsFirstAnswersFault text levels f
exact_err text levels f (by_memory h) = inl h
exact_err text levels f (by_text h) = inr (outcome_fault levels h)

refused_err : (f other : AnswersFault) (given : Result (List Entry) AnswersFault) → given ≡ Err other → FailsAs f given → (f ≡ Memory) ⊎ (f ≡ other)
refused_err f other given e (by_memory h) = inl h
refused_err f other given e (by_text h) = inr (same_Err (sym h ∙ e))

module _ {A : Type 0} (view : A → List Entry) (text : List ℕ) (levels : ℕ) where
  pub found_by : (r : Result A AnswersFault) → Gives view r (outcome text levels) → IfOk r (λ a. SpellsEntries text levels (view a))
  found_by (Ok a) h = outcome_found h
  found_by (Err f) h = tt

  pub only_by : (r : Result A AnswersFault) → Gives view r (outcome text levels)
      → (entries : List Entry) → SpellsEntries text levels entries → MatchResult r (λ a. view a ≡ entries) (λ e. e ≡ Memory)
  only_by (Ok a) h entries spelled = same_Ok (sym h ∙ outcome_again spelled)
  only_by (Err f) h entries spelled = search (only_err, outcome_again, fails_as)

  pub exact_by : (r : Result A AnswersFault) → Gives view r (outcome text levels) → IfErr r (λ e. (e ≡ Memory) ⊎ IsFirstAnswersFault text levels e)
  exact_by (Ok a) h = tt
  exact_by (Err f) h = search (exact_err, fails_as)

  pub refused_by : (r : Result A AnswersFault) → Gives view r (outcome text levels)
      → (fault : AnswersFault) → IsFirstAnswersFault text levels fault → MatchResult r (λ _. ⊥) (λ e. (e ≡ Memory) ⊎ (e ≡ fault))
  refused_by (Ok a) h fault first = ok_no_err (sym h ∙ outcome_refused levels first)
  refused_by (Err f) h fault first = search (refused_err, outcome_refused, fails_as)

-- a text has one first fault at most
pub one_fault : (text : List ℕ) (levels : ℕ) (a b : AnswersFault) → IsFirstAnswersFault text levels a → IsFirstAnswersFault text levels b → a ≡ b
one_fault text levels a b h k = same_Err (sym (outcome_refused levels h) ∙ outcome_refused levels k)
