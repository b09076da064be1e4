-- A column or a row, read off the front of a text digit by digit.
-- The digits so far are counted, and their number is kept. If the text goes on with a coordinate whose digits end there, the reading ends
-- at the same place: before it the next byte is a digit and the number is at most 6,553, since no coordinate is above 65,535; and after it
-- a byte would have been read that is no digit. So the number is the coordinate. Conversely a number that doesn't begin with 0 is spelled by
-- its digits.
use Rattle.std.proofs.Common.{◌≡◌, ℕ, ◌+◌, ◌-◌, ◌*◌, ◌<◌, ◌≤◌, Bool, true, false, not, ◌&&◌, List, length, take, drop, get_or, eqb, ltb, Some, None, get_or-take, sym, ap, ◌∙◌, arith, ⊎_elim}
use Rattle.std.specs.List.{list_all}
use Rattle.std.specs.Char.{is_ascii_digit}
use Rattle.std.proofs.lemmas.Bool.{cases_Bool, cases_lt, false≢true}
use Rattle.std.proofs.lemmas.List.{drop_at, get_or_append_left, get_or-append_right, length-append, length-take, take_at, take-append-drop, take-append-le}
use Rattle.std.proofs.lemmas.List.Folds.{list_all_at, list_all_more}
use Rattle.answers.specs.Grammar.{numeral}
use Rattle.answers.specs.Reading.{EndsNumber, IsCoordinateBefore, TakesCoordinate, number_in}
use Rattle.answers.proofs.Numerals.{and_true, digits-numeral, is_number-numeral, number_in-more, number_in-numeral, number_in-take-le, numeral-number_in}

-- The text begins with digits up to this place, and this is their number.
pub record BeginsWithDigits (text : List ℕ) (at number : ℕ) : Type 0 where
  pub within : at ≤ length text
  pub digits : list_all is_ascii_digit (take at text) ≡ true
  pub value : number ≡ number_in (take at text)

abbrev pub NoneGoesOn : List ℕ → ℕ → ℕ → Type 0
NoneGoesOn text at number = at < length text → is_ascii_digit (get_or text at 0) ≡ true → 6553 < number

abbrev pub begins : List ℕ → Bool
begins text = ltb 0 (length text) && not (eqb (get_or text 0 0) 48)

pub one_digit_more : (text : List ℕ) (at number : ℕ) → BeginsWithDigits text at number → at < length text → is_ascii_digit (get_or text at 0) ≡ true
    → BeginsWithDigits text (at + 1) (number * 10 + (get_or text at 0 - 48))
one_digit_more text at number h within here =
    let before = h.digits in
    record {
      within = omega arith;
      digits = list_all_more is_ascii_digit text at 0 within ∙ (λ j. before j && here j);
      value = ap (λ n. n * 10 + (get_or text at 0 - 48)) h.value ∙ sym (number_in-more text at within);
    }

pub digit_at : (ds : List ℕ) (k : ℕ) → list_all is_ascii_digit ds ≡ true → k < length ds → is_ascii_digit (get_or ds k 0) ≡ true
digit_at ds k all low = grind (arith, false≢true, list_all_at, cases_Bool)

-- The reading ends where a coordinate ends.
module _ (text : List ℕ) (at number n : ℕ) (rest : List ℕ) (h : BeginsWithDigits text at number) (none : NoneGoesOn text at number)
    (there : IsCoordinateBefore text n rest) (ends : EndsNumber rest) where
  size : length text ≡ length (numeral n) + length rest
  size = grind (arith, length-append)

  no_sooner : length (numeral n) ≤ at
  no_sooner = ⊎_elim
      (λ low.
      let within : at < length text = omega (arith, size) in
      let digit : is_ascii_digit (get_or text at 0) ≡ true = grind (arith, get_or_append_left, digit_at, digits-numeral) in
      let same : take (at + 1) text ≡ take (at + 1) (numeral n) = ap (take (at + 1)) there.spelled ∙ take-append-le (at + 1) (numeral n) rest (omega arith) in
      absurd (omega (arith, number_in-more text at within, ap number_in same, number_in-take-le (numeral n) (at + 1), number_in-numeral n)))
      (λ h. h) (cases_lt at (length (numeral n)))

  no_later : at ≤ length (numeral n)
  no_later = ⊎_elim
      (λ low.
      let m = length (numeral n) in
      let long : m < length (take at text) = omega (arith, length-take at text) in
      let next : get_or (take at text) m 0 ≡ get_or rest 0 0 = grind (arith, get_or-append_right, get_or-take) in
      absurd (false≢true (sym ends ∙ ap is_ascii_digit (sym next) ∙ digit_at (take at text) m h.digits long)))
      (λ h. h) (cases_lt (length (numeral n)) at)

  there_at : length (numeral n) ≡ at
  there_at = omega (arith, no_sooner, no_later)

  digits_are : take at text ≡ numeral n
  digits_are = grind (arith, take_at, there_at)

  rest_is : drop at text ≡ rest
  rest_is = grind (arith, drop_at, there_at)

  number_is : number ≡ n
  number_is = h.value ∙ ap number_in digits_are ∙ number_in-numeral n

pub takes_number : (text : List ℕ) (at number : ℕ) → BeginsWithDigits text at number → NoneGoesOn text at number → begins (take at text) ≡ true
    → number ≤ 65535 → TakesCoordinate text (Some (number, drop at text))
takes_number text at number h none front small =
    let digits = h.digits in
    let is = numeral-number_in (take at text) (λ j. front j && digits j) in
    grind (arith, take-append-drop, number_is, rest_is)

pub takes_no_number : (text : List ℕ) (at number : ℕ) → BeginsWithDigits text at number → NoneGoesOn text at number
    → (number ≤ 65535 → begins (take at text) ≡ false) → TakesCoordinate text None
takes_no_number text at number h none bad = record {
  found = tt;
  only = λ n rest there ends.
      let small : number ≤ 65535 = omega (arith, number_is text at number n rest h none there ends) in
      let front = and_true (begins (numeral n)) (is_number-numeral n (omega arith)) in
      absurd (false≢true (sym (bad small) ∙ ap begins (digits_are text at number n rest h none there ends) ∙ front.0));
}

-- ---- how a coordinate begins

pub no_digits : (text : List ℕ) → BeginsWithDigits text 0 0
no_digits text = grind arith

pub begins_take : (text : List ℕ) (at : ℕ) → 0 < at → at ≤ length text → begins (take at text) ≡ begins text
begins_take text at some within = grind (arith, length-take)

begins_before : (text : List ℕ) (n : ℕ) (rest : List ℕ) → IsCoordinateBefore text n rest → begins text ≡ true
begins_before text n rest there =
    let low = there.low in
    let front = and_true (begins (numeral n)) (is_number-numeral n (omega arith)) in
    rw there.spelled (grind (arith, get_or_append_left, length-append, front.0))

pub takes_no_digit : (text : List ℕ) → (begins text ≡ true → NoneGoesOn text 0 0) → TakesCoordinate text None
takes_no_digit text none = record {
  found = tt;
  only = λ n rest there ends.
      let low = there.low in
      let none = none (begins_before text n rest there) in
      absurd (omega (arith, number_is text 0 0 n rest (no_digits text) none there ends));
}
