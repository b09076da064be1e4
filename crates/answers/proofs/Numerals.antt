-- Numbers and their digits. A numeral is made digit by digit from the number divided by ten, and the number in digits
-- from the number in all but the last. So one induction from the end of a text shows that digits without a leading zero
-- are the numeral of the number in them. The converse is std's: the digits of a number have that number in them. Below
-- 2^64 the numeral is what std and `itoa` print.
use Rattle.std.proofs.Common.{◌≡◌, ℕ, suc, ◌+◌, ◌-◌, ◌*◌, ◌/◌, ◌%◌, ◌^◌, ◌<◌, ◌≤◌, Bool, true, false, not, ◌&&◌, List, [], ◌∷◌, ◌++◌, length, map, get_or, take, drop, zero, take-append-drop, eqb, ltb, refl, sym, ap, subst, ◌∙◌, arith}
use Rattle.std.specs.Prelude.{slice_index}
use Rattle.std.specs.List.{list_all}
use Rattle.std.specs.Char.{is_ascii_digit}
use Rattle.std.specs.Int.Digits.{digits_of, number_from_digits, number_from_digits_after, AllBelowBase}
use Rattle.std.proofs.lemmas.Int.Digits.{digits_of_step, number_digits_of, all_below_base_digits_of, first_digits_of, number_push, number_more, number_after_append, number_after_ge, length-digits_of_step, length-digits_of-le}
use Rattle.std.proofs.lemmas.Nat.{div-mul-add, mod-mul-add}
use Rattle.std.proofs.lemmas.List.{map-append, append-nil, append_assoc, length-map, take-map}
use Rattle.std.proofs.lemmas.Bool.{false≢true, leb-true, lt-ltb, ne_eqb}
use Rattle.answers.specs.Grammar.{numeral}
use Rattle.answers.specs.Reading.{is_number, number_in}

-- a numeral is the numeral of the number divided by ten, and one digit more
pub numeral_step : (n : ℕ) → 0 < n → numeral n ≡ numeral (n / 10) ++ (48 + n % 10) ∷ []
numeral_step n some = grind (arith, digits_of_step, map-append)

small_numeral : (m : ℕ) → 0 < m → m < 10 → numeral m ≡ (48 + m) ∷ []
small_numeral m some small = grind (arith, numeral_step)

-- the number in digits and one digit more
pub number_in-push : (ds : List ℕ) (b : ℕ) → number_in (ds ++ b ∷ []) ≡ number_in ds * 10 + (b - 48)
number_in-push ds b = search (map-append, number_push)

pub and_true : (a : Bool) {b : Bool} → (a && b) ≡ true → (a ≡ true) × (b ≡ true)
and_true true h = (refl, h)
and_true false h = absurd (false≢true h)

less_48 : (ds : List ℕ) → map (λ b. b - 48) (map (λ d. 48 + d) ds) ≡ ds
less_48 [] = refl
less_48 (d ∷ ds) = grind (arith, less_48 ds)

-- a numeral holds its number
pub number_in-numeral : (n : ℕ) → number_in (numeral n) ≡ n
number_in-numeral n = grind (arith, less_48, number_digits_of)

pub digit_from_test : (b : ℕ) → is_ascii_digit b ≡ true → (48 ≤ b) × (b ≤ 57)
digit_from_test b h = grind (arith, and_true, leb-true)

are_digits : (ds : List ℕ) → AllBelowBase 10 ds → list_all is_ascii_digit (map (λ d. 48 + d) ds) ≡ true
are_digits [] h = refl
are_digits (d ∷ ds) h = grind (arith, are_digits ds h.1)

-- a numeral consists of digits
pub digits-numeral : (n : ℕ) → list_all is_ascii_digit (numeral n) ≡ true
digits-numeral n = grind (arith, are_digits, all_below_base_digits_of)

first_more : (ds : List ℕ) → (0 < length ds) → slice_index (map (λ d. 48 + d) ds) 0 ≡ 48 + slice_index ds 0
first_more [] some = absurd (omega arith)
first_more (d ∷ ds) some = refl

length_numeral : {n : ℕ} → 0 < n → 0 < length (digits_of 10 n)
length_numeral some = grind (arith, length-digits_of_step)

pub some_digits : {n : ℕ} → 0 < n → 0 < length (numeral n)
some_digits some = search (length_numeral, length-map)

-- a numeral of a number above 0 doesn't begin with 0
pub is_number-numeral : (n : ℕ) → 0 < n → is_number (numeral n) ≡ true
is_number-numeral n some = grind (arith, some_digits, first_more, length_numeral, first_digits_of, lt-ltb, ne_eqb, digits-numeral)

-- the digits are the numeral of the number in them, which isn't 0
record IsNumeralText (ds : List ℕ) : Type 0 where
  same : numeral (number_in ds) ≡ ds
  some : 0 < number_in ds

one_more : (front : List ℕ) (b : ℕ) → IsNumeralText front → is_ascii_digit b ≡ true → IsNumeralText (front ++ b ∷ [])
one_more front b h digit = grind (arith, digit_from_test, number_in-push, div-mul-add, mod-mul-add, numeral_step)

more_digits : (rest : List ℕ) {front : List ℕ} → IsNumeralText front → list_all is_ascii_digit rest ≡ true → IsNumeralText (front ++ rest)
more_digits [] h digits = search (append-nil)
more_digits (b ∷ rest) {front} h digits =
    let both = and_true (is_ascii_digit b) digits in
    subst IsNumeralText (append_assoc front (b ∷ []) rest) (more_digits rest (one_more front b h both.0) both.1)

-- digits that don't begin with 0 are the numeral of the number in them
pub numeral-number_in : (ds : List ℕ) → is_number ds ≡ true → (numeral (number_in ds) ≡ ds) × (0 < number_in ds)
numeral-number_in [] h = absurd cc
numeral-number_in (b ∷ ds) h =
    let parts = and_true (ltb 0 (length (b ∷ ds)) && not (eqb b 48)) {b = (list_all is_ascii_digit (b ∷ ds))} h in
    let both = and_true (is_ascii_digit b) {b = (list_all is_ascii_digit ds)} parts.1 in
    let one : IsNumeralText (b ∷ []) = grind (arith, small_numeral) in
    let all = more_digits ds {front = (b ∷ [])} one both.1 in
    (all.same, all.some)

get_less : (ds : List ℕ) (i : ℕ) → get_or (map (λ b. b - 48) ds) i 0 ≡ get_or ds i 0 - 48
get_less [] i = refl
get_less (d ∷ ds) zero = refl
get_less (d ∷ ds) (suc i) = get_less ds i

-- the number in the digits up to a place, and in one digit more
pub number_in-more : (ds : List ℕ) (i : ℕ) → i < length ds → number_in (take (i + 1) ds) ≡ number_in (take i ds) * 10 + (get_or ds i 0 - 48)
number_in-more ds i within =
    let less = map (λ b. b - 48) ds in
    let long : i < length less = omega (arith, length-map ds (λ b. b - 48)) in
    ap (number_from_digits 10) (sym (take-map (λ b. b - 48) (i + 1) ds)) ∙ number_more 10 less i long
    ∙ ap (λ n. n * 10 + get_or less i 0) (ap (number_from_digits 10) (take-map (λ b. b - 48) i ds)) ∙ ap (λ n. number_in (take i ds) * 10 + n) (get_less ds i)

-- the number in the first digits isn't above the number in all of them
pub number_in-take-le : (ds : List ℕ) (i : ℕ) → number_in (take i ds) ≤ number_in ds
number_in-take-le ds i =
    let front = map (λ b. b - 48) (take i ds) in
    let rest = map (λ b. b - 48) (drop i ds) in
    let parts : number_in ds ≡ number_from_digits_after 10 (number_in (take i ds)) rest =
    ap number_in (sym (take-append-drop i ds)) ∙ ap (number_from_digits 10) (map-append (λ b. b - 48) (take i ds) (drop i ds)) ∙
    number_after_append 10 0 front rest in
    omega (arith, number_after_ge 10 (number_in (take i ds)) rest (omega arith))

-- a number of 16 bits has few digits
pub few_digits : {n : ℕ} → n < 2 ^ 16 → length (numeral n) ≤ 5
few_digits small = grind (arith, length-map, length-digits_of-le)
