-- The lines of the letters of a solution: joined they are the letters, and each is plain and isn't `end`. A line is
-- begun only if letters are left, so it isn't empty. Its bytes are letters, and no letter is a control byte, a
-- semicolon or the first byte of `end`.
use Rattle.std.proofs.Common.{◌≡◌, ◌≢◌, ℕ, zero, suc, ◌+◌, ◌*◌, ◌<◌, ◌≤◌, List, [], ◌∷◌, ◌++◌, length, take, drop, refl, sym, ap, ◌∙◌, arith, codes, take-append-drop}
use Rattle.std.specs.List.{AllByRecursion, concat}
use Rattle.std.proofs.lemmas.List.{length-drop, length-take}
use Rattle.answers.specs.Canonical.{letter_lines, lines_of_70}
use Rattle.answers.specs.RoundTrip.{IsLetter}
use Rattle.answers.proofs.PlainLines.{ArePlain, IsPlainLine}

-- ---- letters

plain_letters : (letters : List ℕ) → AllByRecursion IsLetter letters → ArePlain letters
plain_letters [] h = refl
plain_letters (b ∷ letters) h = grind (arith, plain_letters letters h.1)

-- ---- lines

letters_front : (n : ℕ) (letters : List ℕ) → AllByRecursion IsLetter letters → AllByRecursion IsLetter (take n letters)
letters_front zero letters h = tt
letters_front (suc n) [] h = tt
letters_front (suc n) (b ∷ letters) h = (h.0, letters_front n letters h.1)

letters_rest : (n : ℕ) (letters : List ℕ) → AllByRecursion IsLetter letters → AllByRecursion IsLetter (drop n letters)
letters_rest zero letters h = h
letters_rest (suc n) [] h = tt
letters_rest (suc n) (b ∷ letters) h = letters_rest n letters h.1

lines_plain : (count : ℕ) (letters : List ℕ) → 70 * count < length letters + 70 → AllByRecursion IsLetter letters
    → AllByRecursion IsPlainLine (lines_of_70 count letters)
lines_plain zero letters begun h = tt
lines_plain (suc count) letters begun h =
    let some : 0 < length (take 70 letters) = omega (arith, length-take 70 letters) in
    let rest : 70 * count < length (drop 70 letters) + 70 = omega (arith, length-drop 70 letters) in (
      record { some = some; plain = plain_letters (take 70 letters) (letters_front 70 letters h) },
      lines_plain count (drop 70 letters) rest (letters_rest 70 letters h),
    )

lines_go_on : (count : ℕ) (letters : List ℕ) → AllByRecursion IsLetter letters → AllByRecursion (λ l. l ≢ codes "end") (lines_of_70 count letters)
lines_go_on zero letters h = tt
lines_go_on (suc count) letters h = grind (arith, lines_go_on count (drop 70 letters) (letters_rest 70 letters h))

lines_join : (count : ℕ) {letters : List ℕ} → length letters ≤ 70 * count → concat (lines_of_70 count letters) ≡ letters
lines_join zero {letters} few = sym (none letters (omega arith))
  where
    none : (xs : List ℕ) → length xs ≤ 0 → xs ≡ []
    none [] h = refl
    none (x ∷ xs) h = absurd (omega arith)
lines_join (suc count) {letters} few =
    let rest : length (drop 70 letters) ≤ 70 * count = omega (arith, length-drop 70 letters) in
    ap (λ l. take 70 letters ++ l) (lines_join count rest) ∙ take-append-drop 70 letters

-- ---- the lines of a solution

pub letter_lines-plain : (letters : List ℕ) → AllByRecursion IsLetter letters → AllByRecursion IsPlainLine (letter_lines letters)
letter_lines-plain letters h = grind (arith, lines_plain)

pub letter_lines-go_on : (letters : List ℕ) → AllByRecursion IsLetter letters → AllByRecursion (λ l. l ≢ codes "end") (letter_lines letters)
letter_lines-go_on letters h = search (lines_go_on)

pub letter_lines-join : (letters : List ℕ) → concat (letter_lines letters) ≡ letters
letter_lines-join letters = grind (arith, lines_join)
