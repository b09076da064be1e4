-- The lines of letters, one by one: if letters are left, the first line has the first 70 of them, or all, and the other
-- lines have the rest. The number of lines is a quotient that rounds up, so it is one more than the number for the
-- rest.
use Rattle.std.proofs.Common.{◌≡◌, ℕ, List, ◌∷◌, ◌++◌, ◌+◌, ◌-◌, ◌/◌, ◌<◌, min, suc, arith, length, take, drop}
use Rattle.std.proofs.lemmas.Bool.{cases_lt}
use Rattle.std.proofs.lemmas.List.{length-drop, take_min, drop_all}
use Rattle.std.specs.List.{flat_map}
use Rattle.answers.specs.Canonical.{ended, letter_lines}

one_line_more : (n : ℕ) → 0 < n → (n + 69) / 70 ≡ suc ((n - 70 + 69) / 70)
one_line_more n some = omega arith

pub letter_lines-some : (letters : List ℕ) → 0 < length letters → letter_lines letters ≡ take 70 letters ∷ letter_lines (drop 70 letters)
letter_lines-some letters some = search (one_line_more, length-drop)

drop_min : (n : ℕ) (xs : List ℕ) → drop (min n (length xs)) xs ≡ drop n xs
drop_min n xs = grind (arith, cases_lt, drop_all)

-- the text of lines of letters is the next line and the text of the lines after it
pub next_line : (rest : List ℕ) {line after : List ℕ} {n : ℕ} → 0 < length rest → n ≡ min 70 (length rest) → line ≡ take n rest → after ≡ drop n rest →
    ended line ++ flat_map ended (letter_lines after) ≡ flat_map ended (letter_lines rest)
next_line rest some e p q = grind (arith, take_min, drop_min, letter_lines-some)
