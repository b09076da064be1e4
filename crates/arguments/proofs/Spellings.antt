-- How clap reads the words that spell a request.
-- The parser is a value, so what it takes and finds can be computed for words whose first bytes are known. Clap asks of a
-- text only that it has no hyphen in front, and a plain word has none. A level's number in decimal consists of digits with
-- this value, and the first is no sign. So clap reads these digits, and finds the number in its range.
use Rattle.std.proofs.Common.{◌≡◌, ◌≢◌, ◌<◌, ◌^◌, ℕ, List, [], ◌∷◌, true, false, nat_eq, refl, codes, length, get_or, None, Some, option_map, inl, inr, sym, ap, ◌∙◌, subst, arith}
use Rattle.std.specs.Prelude.{Option, decimal, int_le, nat_lt, pos}
use Rattle.std.specs.Char.{digit_value}
use Rattle.std.specs.List.{list_all}
use Rattle.std.specs.Str.Parse.{AllDigits, digits_value}
use Rattle.std.proofs.lemmas.Bool.{ne_eqb, lt-ltb, le-leb}
use Rattle.std.proofs.lemmas.Fmt.{decimal_is_IsNumeral, first_decimal}
use Rattle.clap.specs.ValueTests.{fits_i64}
use Rattle.clap.specs.Words.{App, HasKind, Kinds, Row, Text, fault_of, is_simple, is_simple_and_free, kind_of, subcommand_of}
use Rattle.clap.specs.declared.error.Error.{Error}
use Rattle.clap.specs.declared.error.kind.ErrorKind.TheVariants.{OutOfMemory}
use Rattle.clap.proofs.OnLiterals.{clap_on_literals}
use Rattle.arguments.specs.Command.{Given, ClapFinds, GivesRequest, IsLevelNumber, IsNumberIn, IsPlainWord, Request, SpellsRequest, audit, dead, given_of, make, program_app}
use Rattle.arguments.proofs.Requests.{given_once}

-- clap finds no fault in the words, and finds the request
pub record IsTakenAs (words : List Text) (request : Request) : Type 0 where
  pub faultless : fault_of program_app words ≡ []
  pub found : ClapFinds words request

pub simple : is_simple program_app ≡ true
unfolding clap_on_literals
simple = refl

pub free : is_simple_and_free program_app ≡ true
unfolding clap_on_literals
free = refl

-- an error without a kind is out of memory
pub only_memory : (kinds : Kinds) (e : Error) → HasKind kinds e → kinds ≡ [] → kind_of e ≡ OutOfMemory
only_memory [] e (inl memory) is = memory
only_memory [] e (inr none) is = absurd none
only_memory (k ∷ ks) e found is = cc

audit_faultless : (p : Text) (x : ℕ) (xs : Text) (y : ℕ) (ys : Text) → nat_eq x 45 ≡ false → nat_eq y 45 ≡ false
    → fault_of program_app (p ∷ codes "audit" ∷ (x ∷ xs) ∷ (y ∷ ys) ∷ []) ≡ []
unfolding clap_on_literals
audit_faultless p x xs y ys hx hy = grind arith

audit_given : (p : Text) {x : ℕ} (xs : Text) {y : ℕ} (ys : Text) → nat_eq x 45 ≡ false → nat_eq y 45 ≡ false
    → option_map given_of (subcommand_of program_app (p ∷ codes "audit" ∷ (x ∷ xs) ∷ (y ∷ ys) ∷ []))
    ≡ Some (record { name = codes "audit"; levels = Some (x ∷ xs); answers = Some (y ∷ ys); number = None })
unfolding clap_on_literals
audit_given p xs ys hx hy = grind arith

make_faultless : (p : Text) (x : ℕ) (xs : Text) → nat_eq x 45 ≡ false → fault_of program_app (p ∷ codes "make" ∷ (x ∷ xs) ∷ []) ≡ []
unfolding clap_on_literals
make_faultless p x xs hx = grind arith

make_given : (p : Text) {x : ℕ} (xs : Text) → nat_eq x 45 ≡ false → option_map given_of (subcommand_of program_app (p ∷ codes "make" ∷ (x ∷ xs) ∷ []))
    ≡ Some (record { name = codes "make"; levels = Some (x ∷ xs); answers = None; number = None })
unfolding clap_on_literals
make_given p xs hx = grind arith

-- clap's tests of a number hold: the text has no sign and digits alone, and the number is in the range
record IsTestedNumber (y : ℕ) (ys : Text) : Type 0 where
  minus : nat_eq y 45 ≡ false
  plus : nat_eq y 43 ≡ false
  some : nat_lt 0 (length (y ∷ ys)) ≡ true
  digits : list_all (λ d. nat_lt (digit_value d) 10) (y ∷ ys) ≡ true
  fits : fits_i64 (pos (digits_value 10 (y ∷ ys))) ≡ true
  least : int_le (pos 1) (pos (digits_value 10 (y ∷ ys))) ≡ true
  most : int_le (pos (digits_value 10 (y ∷ ys))) (pos 10000) ≡ true

dead_faultless : (p : Text) (x : ℕ) (xs : Text) {y : ℕ} {ys : Text} → nat_eq x 45 ≡ false → IsTestedNumber y ys
    → fault_of program_app (p ∷ codes "dead" ∷ (x ∷ xs) ∷ (y ∷ ys) ∷ []) ≡ []
unfolding clap_on_literals
dead_faultless p x xs hx h = grind arith

dead_given : (p : Text) {x : ℕ} (xs : Text) {y : ℕ} (ys : Text) → nat_eq x 45 ≡ false → nat_eq y 45 ≡ false
    → option_map given_of (subcommand_of program_app (p ∷ codes "dead" ∷ (x ∷ xs) ∷ (y ∷ ys) ∷ []))
    ≡ Some (record { name = codes "dead"; levels = Some (x ∷ xs); answers = None; number = Some (y ∷ ys) })
unfolding clap_on_literals
dead_given p xs ys hx hy = grind arith

-- ---- from plain words

no_hyphen : {x : ℕ} → x ≢ 45 → nat_eq x 45 ≡ false
no_hyphen {x} n = ne_eqb x 45 n

audit_spelled : (p a b : Text) → IsPlainWord a → IsPlainWord b → IsTakenAs (p ∷ codes "audit" ∷ a ∷ b ∷ []) (audit a b)
audit_spelled p [] b ha hb = absurd ha
audit_spelled p (x ∷ xs) [] ha hb = absurd hb
audit_spelled p (x ∷ xs) (y ∷ ys) ha hb = record {
  faultless = audit_faultless p x xs y ys (no_hyphen ha) (no_hyphen hb);
  found = (_, audit_given p xs ys (no_hyphen ha) (no_hyphen hb), (refl, refl, refl));
}

make_spelled : (p a : Text) → IsPlainWord a → IsTakenAs (p ∷ codes "make" ∷ a ∷ []) (make a)
make_spelled p [] ha = absurd ha
make_spelled p (x ∷ xs) ha = record {
  faultless = make_faultless p x xs (no_hyphen ha);
  found = (_, make_given p xs (no_hyphen ha), (refl, refl));
}

-- ---- from a number in decimal

are_digits : (ds : Text) → AllDigits 10 ds → list_all (λ d. nat_lt (digit_value d) 10) ds ≡ true
are_digits [] h = refl
are_digits (d ∷ ds) h = rw (lt-ltb (digit_value d) 10 h.0, are_digits ds h.1) refl

-- the first digit of a number in decimal isn't 0, and the value of its digits is the number
record IsDecimalText (n : ℕ) (text : Text) : Type 0 where
  first : 48 < get_or text 0 0
  some : 0 < length text
  digits : AllDigits 10 text
  value : digits_value 10 text ≡ n

is_decimal : {n : ℕ} → IsLevelNumber n → IsDecimalText n (decimal n)
is_decimal {n} h =
    let fits : n < 2 ^ 64 = omega arith in
    let numeral = decimal_is_IsNumeral n fits in
    record { first = first_decimal n (omega arith) fits; some = numeral.0.0; digits = numeral.0.1; value = numeral.1 }

tested : {n y : ℕ} {ys : Text} → IsLevelNumber n → IsDecimalText n (y ∷ ys) → IsTestedNumber y ys
tested h is = grind (arith, ne_eqb, lt-ltb, are_digits, le-leb)

number_in : {n y : ℕ} {ys : Text} → IsLevelNumber n → IsDecimalText n (y ∷ ys) → nat_eq y 43 ≡ false → IsNumberIn (y ∷ ys) n
number_in h is plus = rw plus ((is.some, is.digits), is.value, h)

dead_spelled : (p a : Text) {n : ℕ} (text : Text) → IsPlainWord a → IsLevelNumber n → IsDecimalText n text
    → IsTakenAs (p ∷ codes "dead" ∷ a ∷ text ∷ []) (dead a n)
dead_spelled p [] text ha h is = absurd ha
dead_spelled p (x ∷ xs) [] ha h is = absurd (omega arith)
dead_spelled p (x ∷ xs) (y ∷ ys) ha h is =
    let number = tested h is in
    record {
      faultless = dead_faultless p x xs (no_hyphen ha) number;
      found = (_, dead_given p xs ys (no_hyphen ha) number.minus, (refl, refl, y ∷ ys, refl, number_in h is number.plus));
    }

-- clap accepts words that spell a request, and finds that request in them
pub spelled : {words : List Text} (request : Request) → SpellsRequest words request → IsTakenAs words request
spelled (audit levels answers) h = subst (λ ws. IsTakenAs ws (audit levels answers)) (sym h.1) (audit_spelled h.0 levels answers h.2 h.3)
spelled (make levels) h = subst (λ ws. IsTakenAs ws (make levels)) (sym h.1) (make_spelled h.0 levels h.2)
spelled (dead levels n) h = subst (λ ws. IsTakenAs ws (dead levels n)) (sym h.1) (dead_spelled h.0 levels (decimal n) h.2 h.3 (is_decimal h.3))

-- clap finds the texts of a subcommand in the words themselves
pub rows_found : {A : Type 0} (app : App) (words : List Text) (rows : Option (Text × List Row)) → app ≡ program_app
    → (is_simple app ≡ true → A × (rows ≡ subcommand_of app words)) → rows ≡ subcommand_of program_app words
rows_found app words rows is found = (found (ap is_simple is ∙ simple)).1 ∙ ap (λ a. subcommand_of a words) is

pub found_in : (words : List Text) (request : Request) (rows : Option (Text × List Row)) → rows ≡ subcommand_of program_app words
    → (given : Given) × (option_map given_of rows ≡ Some given) × GivesRequest given request → ClapFinds words request
found_in words request rows is h = (h.0, ap (option_map given_of) (sym is) ∙ h.1, h.2)

-- words have at most one request
pub found_once : (words : List Text) (one other : Request) → ClapFinds words one → ClapFinds words other → one ≡ other
found_once words one other h k = grind (arith, given_once)
