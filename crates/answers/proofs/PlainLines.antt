-- A plain line has a byte, and each of its bytes is above 13 and no semicolon. So it has no line feed and no carriage
-- return and is neither empty nor a comment, and a text of such lines, each with a line feed, has just these lines.
-- Numbers, cells, patterns and zones are spelled in plain bytes: words, digits, commas and blanks.
use Rattle.std.proofs.Common.{◌≡◌, ◌≢◌, ℕ, zero, suc, ◌+◌, ◌-◌, ◌<◌, Bool, true, false, not, ◌&&◌, ◌==◌, nat_lt, List, [], ◌∷◌, ◌++◌, length, map, get_or, refl, sym, ap, subst, arith, length-append}
use Rattle.std.specs.Prelude.{slice_index, filter, Option, Some, None}
use Rattle.std.specs.List.{AllByRecursion, flat_map, list_all}
use Rattle.std.proofs.lemmas.Bool.{and_right, cond-true, cond-false, ne_eqb, lt-ltb, eq-eqb}
use Rattle.std.proofs.lemmas.Bool.Decides.{nat_tests}
use Rattle.std.proofs.lemmas.List.{get_or_append_left, take_at}
use Rattle.std.proofs.Math.Seq.{get_or-append_seam}
use Rattle.std.proofs.lemmas.List.Folds.{list_all-append}
use Rattle.std.proofs.lemmas.Int.Digits.{all_below_base_digits_of}
use Rattle.bstr.specs.Text.{lines_of, no_cr, without_terminator}
use Rattle.bstr.proofs.lemmas.LineLemmas.{lines-append, lines-nil, lines-one}
use Rattle.lines.specs.Lines.{lines_in}
use Rattle.answers.specs.declared.pattern.Coord.{Coord}
use Rattle.answers.specs.Canonical.{ended}
use Rattle.answers.specs.Grammar.{cell_text, cells_text, header_text, is_kept, level_text, numbered, numeral, pattern_text, seeds_text, zone_text}
use Rattle.answers.specs.Body.{PatternLine, ZoneLine}
use Rattle.answers.proofs.Numerals.{and_true}

-- the byte may be in a plain line
abbrev pub is_plain : ℕ → Bool
is_plain b = nat_lt 13 b && not (b == 59)

-- the bytes may be in a plain line
abbrev pub ArePlain : List ℕ → Type 0
ArePlain bytes = list_all is_plain bytes ≡ true

pub record IsPlainLine (line : List ℕ) : Type 0 where
  pub some : 0 < length line
  pub plain : ArePlain line

pub plain-append : (xs ys : List ℕ) → ArePlain xs → ArePlain ys → ArePlain (xs ++ ys)
plain-append xs ys p q = grind (arith, list_all-append)

-- ---- what is made of plain bytes

plain_digits : (ds : List ℕ) → AllByRecursion (λ d. d < 10) ds → ArePlain (map (λ d. 48 + d) ds)
plain_digits [] h = refl
plain_digits (d ∷ ds) h = grind (arith, plain_digits ds h.1)

pub plain_numeral : (n : ℕ) → ArePlain (numeral n)
plain_numeral n = grind (arith, plain_digits, all_below_base_digits_of)

pub plain_cell : (c : Coord) → ArePlain (cell_text c)
plain_cell c = search (plain-append, plain_numeral)

pub plain_cells : (cells : List Coord) → ArePlain (cells_text cells)
plain_cells [] = refl
plain_cells (c ∷ []) = plain_cell c
plain_cells (c ∷ d ∷ cells) = search (plain-append, plain_cell, plain_cells (d ∷ cells))

plain_seeds : (seeds : Option (List Coord)) → ArePlain (seeds_text seeds)
plain_seeds None = refl
plain_seeds (Some cells) = plain_cells cells

pub plain_pattern : (p : PatternLine) → IsPlainLine (pattern_text p)
plain_pattern p = grind (arith, plain-append, plain_cells, plain_seeds)

pub plain_zone : (z : ZoneLine) → IsPlainLine (zone_text z)
plain_zone z = grind (arith, plain-append, plain_cells)

pub plain_level : (n : ℕ) → IsPlainLine (level_text n)
plain_level n = grind (arith, plain-append, plain_numeral)

pub plain_header : (version : ℕ) → IsPlainLine (header_text version)
plain_header version = grind (arith, plain-append, plain_numeral)

-- ---- each byte of a plain line

-- each element of a list passes a test that all of them pass
pub passes_at : (p : ℕ → Bool) (xs : List ℕ) (i d : ℕ) → i < length xs → list_all p xs ≡ true → p (get_or xs i d) ≡ true
passes_at p [] i d below h = absurd (omega arith)
passes_at p (x ∷ xs) zero d below h = grind (arith, and_true)
passes_at p (x ∷ xs) (suc i) d below h = passes_at p xs i d (omega arith) (and_true (p x) h).1

plain_at : (xs : List ℕ) {i : ℕ} → i < length xs → ArePlain xs → is_plain (slice_index xs i) ≡ true
plain_at xs {i} below h = passes_at is_plain xs i 0 below h

no_feed : {b : ℕ} → is_plain b ≡ true → b ≢ 10
no_feed p e = grind (arith, nat_tests)

no_return : {b : ℕ} → is_plain b ≡ true → b ≢ 13
no_return p e = grind (arith, nat_tests)

no_comment : (b : ℕ) → is_plain b ≡ true → (b == 59) ≡ false
no_comment b p = grind (arith, nat_tests)

-- ---- the lines of a text

last_is : (line : List ℕ) → length (ended line) - 1 ≡ length line
last_is line = omega (arith, length-append line (10 ∷ []))

pub ends_at : (line : List ℕ) → slice_index (ended line) (length (ended line) - 1) ≡ 10
ends_at line = search (last_is, get_or-append_seam)

within : {line : List ℕ} → IsPlainLine line → (k : ℕ) → k + 1 < length (ended line) → slice_index (ended line) k ≢ 10
within {line} h k below =
    let here : k < length line = omega (arith, length-append line (10 ∷ [])) in
    subst (λ b. b ≢ 10) (sym (get_or_append_left line (10 ∷ []) 0 k here)) (no_feed (plain_at line here h.plain))

one_line : (line : List ℕ) → IsPlainLine line → lines_of (ended line) ≡ ended line ∷ []
one_line line h = grind (arith, lines-one, within, length-append)

no_return_at_end : {line : List ℕ} → IsPlainLine line → no_cr line ≡ line
no_return_at_end {line} h =
    let last = slice_index line (length line - 1) in
    let other : last ≢ 13 = no_return (plain_at line {i = (length line - 1)} (omega arith) h.plain) in
    grind (arith, ne_eqb, and_right, cond-false)

taken_off : {line : List ℕ} → IsPlainLine line → without_terminator (ended line) ≡ line
taken_off {line} h = grind (arith, lt-ltb, eq-eqb, ends_at, cond-true, take_at, last_is, no_return_at_end)

-- a text of plain lines has just these lines
pub lines_again : (lines : List (List ℕ)) → AllByRecursion IsPlainLine lines → lines_in (flat_map ended lines) ≡ lines
lines_again [] h = ap (map without_terminator) lines-nil
lines_again (line ∷ lines) h = grind (arith, lines-append, ends_at, one_line, taken_off, lines_again lines h.1)

-- a plain line is kept
kept_line : (n : ℕ) {line : List ℕ} → IsPlainLine line → is_kept (record { number = n; text = line }) ≡ true
kept_line n h = search (lt-ltb, no_comment, plain_at)

pub all_kept : (n : ℕ) (lines : List (List ℕ)) → AllByRecursion IsPlainLine lines → filter is_kept (numbered n lines) ≡ numbered n lines
all_kept n [] h = refl
all_kept n (line ∷ lines) h = search (kept_line, all_kept (n + 1) lines h.1)
