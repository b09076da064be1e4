-- Lines where a level line or a kind line is due. The digits of a level line are read as its number, however many there
-- are, and two tests compare that number with the level before and with the number of levels. So a line is taken, or
-- refused with a fault, exactly when the rule says so. A kind line is one of two texts.
use Rattle.std.proofs.Common.{◌≡◌, ◌≢◌, ℕ, ◌<◌, ◌≤◌, ◌⊎◌, Bool, true, false, cond, ltb, leb, List, [], Option, Some, None, Result, Ok, Err, refl, sym, ap, ◌∙◌, arith, inl, inr, ⊎_elim}
use Rattle.std.specs.Prelude.{codes}
use Rattle.std.specs.Str.{bytes_eq}
use Rattle.std.proofs.lemmas.Bool.{cases_Bool, leb-true, leb-false, le-leb, lt-leb, ltb-true, ltb-false, lt-ltb, le-ltb}
use Rattle.std.proofs.lemmas.Slice.Eq.{bytes_eq-Decides}
use Rattle.answers.specs.declared.fault.AnswersFault.{AnswersFault}
use Rattle.answers.specs.declared.fault.AnswersFault.TheVariants.{Level, Order, Unknown}
use Rattle.answers.specs.declared.fault.AnswersFault.TheVariants as fault
use Rattle.answers.specs.declared.record_text.Kind.{Kind}
use Rattle.answers.specs.declared.record_text.Kind.TheVariants.{Solution, Unsolvable}
use Rattle.answers.specs.Grammar.{Line}
use Rattle.answers.specs.Body.{Body, LetterLines, PatternLines}
use Rattle.answers.specs.FirstFault.{IsLevelLine, IsKind}
use Rattle.answers.specs.Reading.{on_ok, number_in, level_digits, level_in, level_after, body_after, opened}
use Rattle.answers.specs.Records.{kind_line}
use Rattle.answers.proofs.Numerals.{number_in-numeral}
use Rattle.answers.proofs.LineTexts.{level_found, level_again}

-- a chain of two steps that ended well took both steps
pub went_on : {A B : Type 0} (r : Result A AnswersFault) {f : A → Result B AnswersFault} {y : B} → on_ok r f ≡ Ok y → (x : A) × (r ≡ Ok x) × (f x ≡ Ok y)
went_on (Ok x) e = (x, refl, e)
went_on (Err d) e = absurd cc

-- a chain of two steps that ended in a fault has the fault of one of them
pub went_wrong : {A B : Type 0} (r : Result A AnswersFault) {f : A → Result B AnswersFault} {d : AnswersFault} → on_ok r f ≡ Err d
    → (r ≡ Err d) ⊎ ((x : A) × (r ≡ Ok x) × (f x ≡ Err d))
went_wrong (Ok x) e = inr (x, refl, e)
went_wrong (Err c) e = inl cc

-- ---- level lines and kind lines

-- the digits of a level line spell the level's number
level_is : {text : List ℕ} {n : ℕ} → IsLevelLine text n → (digits : List ℕ) × (level_digits text ≡ Some digits) × (number_in digits ≡ n)
level_is {n} h = (_, ap level_digits h.spelled ∙ level_again h.low, number_in-numeral n)

no_level : {text : List ℕ} → level_digits text ≡ None → (n : ℕ) → ¬ IsLevelLine text n
no_level e n h = let read = (level_is h).1 in absurd cc

choice_ok : (low high : Bool) (line k n : ℕ) → ◌≡◌ {A = Result ℕ AnswersFault} (cond low (Err (Order line)) (cond high (Err (Unknown line)) (Ok k))) (Ok n)
    → (low ≡ false) × (high ≡ false) × (k ≡ n)
choice_ok true high line k n e = absurd cc
choice_ok false true line k n e = absurd cc
choice_ok false false line k n e = (refl, refl, cc)

choice_err : (low high : Bool) {line : ℕ} (k : ℕ) {f : AnswersFault}
    → ◌≡◌ {A = Result ℕ AnswersFault} (cond low (Err (Order line)) (cond high (Err (Unknown line)) (Ok k))) (Err f)
    → ((low ≡ true) × (f ≡ Order line)) ⊎ ((low ≡ false) × (high ≡ true) × (f ≡ Unknown line))
choice_err true high k e = inl (refl, cc)
choice_err false true k e = inr (refl, refl, cc)
choice_err false false k e = absurd cc

-- the text is the level line of a level that may follow the last one
pub record IsLevelTaken (last levels : ℕ) (text : List ℕ) (n : ℕ) : Type 0 where
  pub line : IsLevelLine text n
  pub above : last < n
  pub known : n ≤ levels

taken_by : (last levels : ℕ) (l : Line) (n : ℕ) (o : Option (List ℕ)) → level_digits l.text ≡ o → level_in last levels l.number o ≡ Ok n
    → IsLevelTaken last levels l.text n
taken_by last levels l n None read e = absurd cc
taken_by last levels l n (Some digits) read e = grind (arith, level_found, choice_ok, leb-false, ltb-false)

pub level_taken : (last levels : ℕ) (l : Line) (n : ℕ) → level_after last levels l ≡ Ok n → IsLevelTaken last levels l.text n
unfolding level_after
level_taken last levels l n e = search (taken_by)

-- a line that was refused as a level line
pub data IsLevelRefused (last levels : ℕ) (l : Line) (f : AnswersFault) : Type 0 where
  no_line : ((n : ℕ) → ¬ IsLevelLine l.text n) → f ≡ Level l.number → IsLevelRefused last levels l f
  not_above : (n : ℕ) → IsLevelLine l.text n → n ≤ last → f ≡ Order l.number → IsLevelRefused last levels l f
  not_known : (n : ℕ) → IsLevelLine l.text n → last < n → levels < n → f ≡ Unknown l.number → IsLevelRefused last levels l f

refused_by : (last levels : ℕ) (l : Line) (f : AnswersFault) (o : Option (List ℕ)) → level_digits l.text ≡ o → level_in last levels l.number o ≡ Err f
    → IsLevelRefused last levels l f
refused_by last levels l f None read e = no_line (no_level read) cc
refused_by last levels l f (Some digits) read e =
    let h = level_found read in
    let m = number_in digits in
    let line : IsLevelLine l.text m = record { low = h.low; spelled = h.text_is } in
    ⊎_elim
    (λ c. not_above m line (leb-true m last c.0) c.1)
    (λ c. not_known m line (leb-false m last c.0) (ltb-true levels m c.1) c.2) (choice_err (leb m last) (ltb levels m) m e)

pub level_refused : (last levels : ℕ) (l : Line) (f : AnswersFault) → level_after last levels l ≡ Err f → IsLevelRefused last levels l f
unfolding level_after
level_refused last levels l f e = search (refused_by)

-- a level line of a level that may follow the last one is taken
pub take_level : (last levels : ℕ) (l : Line) (n : ℕ) → IsLevelTaken last levels l.text n → level_after last levels l ≡ Ok n
unfolding level_after
take_level last levels l n h =
    let d = level_is h.line in
    grind (arith, lt-leb, le-ltb)

pub refuse_level : {last levels : ℕ} {l : Line} {f : AnswersFault} → IsLevelRefused last levels l f → level_after last levels l ≡ Err f
unfolding level_after
refuse_level {last} {levels} {l} {f} (no_line none e) = by_digits (level_digits l.text) refl
  where
    by_digits : (o : Option (List ℕ)) → level_digits l.text ≡ o → level_in last levels l.number (level_digits l.text) ≡ Err f
    by_digits None read = ap (level_in last levels l.number) read ∙ ap Err (sym e)
    by_digits (Some digits) read = let h = level_found read in absurd (none (number_in digits) (record { low = h.low; spelled = h.text_is }))
refuse_level {last} {levels} {l} (not_above n line under e) =
    let d = level_is line in
    grind (arith, le-leb)
refuse_level {last} {levels} {l} (not_known n line over past e) =
    let d = level_is line in
    grind (arith, lt-leb, lt-ltb)

-- what a kind line opens
pub data Opens (text : List ℕ) (b : Body) : Type 0 where
  solution : text ≡ codes "solution" → b ≡ LetterLines [] → Opens text b
  certificate : text ≡ codes "unsolvable" → b ≡ PatternLines [] → Opens text b

kind_choice_ok : (a c : Bool) (line : ℕ) (b : Body) → ◌≡◌ {A = Result Body AnswersFault}
    (cond a (Ok (LetterLines [])) (cond c (Ok (PatternLines [])) (Err (fault.Kind line)))) (Ok b)
    → ((a ≡ true) × (b ≡ LetterLines [])) ⊎ ((c ≡ true) × (b ≡ PatternLines []))
kind_choice_ok true c line b e = inl (refl, cc)
kind_choice_ok false true line b e = inr (refl, cc)
kind_choice_ok false false line b e = absurd cc

kind_choice_err : (a c : Bool) (line : ℕ) (f : AnswersFault)
    → ◌≡◌ {A = Result Body AnswersFault} (cond a (Ok (LetterLines [])) (cond c (Ok (PatternLines [])) (Err (fault.Kind line)))) (Err f)
    → (a ≡ false) × (c ≡ false) × (f ≡ fault.Kind line)
kind_choice_err true c line f e = absurd cc
kind_choice_err false true line f e = absurd cc
kind_choice_err false false line f e = (refl, refl, cc)

pub kind_taken : (l : Line) (b : Body) → body_after l ≡ Ok b → Opens l.text b
unfolding body_after
kind_taken l b e = grind (arith, bytes_eq-Decides, kind_choice_ok)

-- the line of a kind is its kind line
opens_kind : (text : List ℕ) (kind : Kind) → Opens text (opened kind) → text ≡ kind_line kind
opens_kind text Solution (solution is same) = is
opens_kind text Solution (certificate is same) = absurd cc
opens_kind text Unsolvable (solution is same) = absurd cc
opens_kind text Unsolvable (certificate is same) = is

pub kind_is : (l : Line) (kind : Kind) → body_after l ≡ Ok (opened kind) → l.text ≡ kind_line kind
kind_is l kind e = opens_kind l.text kind (kind_taken l (opened kind) e)

pub differs : {a b : List ℕ} → bytes_eq a b ≡ false → a ≢ b
differs unlike e = grind (arith, bytes_eq-Decides)

pub kind_refused : (l : Line) (f : AnswersFault) → body_after l ≡ Err f → ¬ IsKind l.text × (f ≡ fault.Kind l.number)
unfolding body_after
kind_refused l f e = grind (arith, kind_choice_err, differs)

pub same_text : (a b : List ℕ) → a ≡ b → bytes_eq a b ≡ true
same_text a b e = (bytes_eq-Decides a b).1 e

pub other_text : {a b : List ℕ} → a ≢ b → bytes_eq a b ≡ false
other_text ne = grind (arith, bytes_eq-Decides, cases_Bool)

pub take_kind : (l : Line) {b : Body} → Opens l.text b → body_after l ≡ Ok b
unfolding body_after
take_kind l (solution text said) = search
take_kind l (certificate text said) = search

pub refuse_kind : {l : Line} → ¬ IsKind l.text → body_after l ≡ Err (fault.Kind l.number)
unfolding body_after
refuse_kind none = grind (arith, other_text)
