-- Cells, read off the front of a text one after the other.
-- A cell is its column up to a comma, and then its row. While cells are read, the cells of the text are the cells so far and then the cells of
-- what is left. What is left begins with its first cell, which is the one that was taken there, because a number ends where its digits end. Either
-- a blank follows with another cell, or that was the last one. If the text has cells, no step of this fails. So what was taken is there, and
-- what is there was taken.
use Rattle.std.proofs.Common.{◌≡◌, ◌≢◌, ℕ, ◌<◌, true, List, [], ◌∷◌, ◌++◌, length, drop, get_or, Option, Some, None, refl, sym, ap, ◌∙◌, arith, inl, inr, append_assoc}
use Rattle.std.specs.Prelude.{slice_index}
use Rattle.std.specs.List.{AllByRecursion}
use Rattle.std.specs.Char.{is_ascii_digit}
use Rattle.std.proofs.lemmas.Bool.{cases_Bool, eq-eqb, eqb-true, false≢true, lt-ltb, ltb-true}
use Rattle.std.proofs.Math.Bool.{or-true}
use Rattle.std.proofs.lemmas.List.{get_or_append_left}
use Rattle.std.proofs.lemmas.Option.{some_pair_parts}
use Rattle.answers.specs.declared.pattern.Coord.{Coord}
use Rattle.answers.specs.Grammar.{AreInOrder, IsBefore, IsCell, cell_text, cells_text, numeral}
use Rattle.answers.specs.Reading.{AreCellsBefore, EndsCells, EndsNumber, IsCellBefore, IsCoordinateBefore, TakesCell, TakesCells, is_before, origin}
use Rattle.answers.proofs.Coordinates.{digit_at}
use Rattle.answers.proofs.Numerals.{and_true, digits-numeral, some_digits}

-- ---- a cell

pub before_from_test : {last cell : Coord} → is_before last cell ≡ true → IsBefore last cell
before_from_test h = grind (arith, ltb-true, and_true, eqb-true, cases_Bool)

pub test_from_before : {last cell : Coord} → IsBefore last cell → is_before last cell ≡ true
test_from_before {last} {cell} (inl up) = rw (lt-ltb last.row cell.row up) refl
test_from_before (inr same) = search (eq-eqb, lt-ltb, or-true)

module _ (text : List ℕ) (cell : Coord) (rest : List ℕ) (there : IsCellBefore text cell rest) where
  pub column_there : IsCoordinateBefore text cell.column (44 ∷ (numeral cell.row ++ rest))
  column_there = grind (arith, append_assoc)

  begins_with_digit : is_ascii_digit (slice_index text 0) ≡ true
  begins_with_digit =
      let column = numeral cell.column in
      let some : 0 < length column = some_digits there.lawful.column_low in
      ap (λ l. is_ascii_digit (get_or l 0 0)) column_there.spelled
      ∙ ap is_ascii_digit (get_or_append_left column (44 ∷ (numeral cell.row ++ rest)) 0 0 some) ∙ digit_at column 0 (digits-numeral cell.column) some

-- ---- cells

abbrev taking : List Coord → List ℕ → Option (List Coord × List ℕ)
taking cells rest = Some (cells, rest)

-- The text goes on with these cells, which follow the last one, and then with the rest.
record GoOnAfter (last : Coord) (text : List ℕ) (cells : List Coord) (rest : List ℕ) : Type 0 where
  spelled : text ≡ cells_text cells ++ rest
  some : 0 < length cells
  each : AllByRecursion IsCell cells
  order : AreInOrder (last ∷ cells)

-- The cells of the text are the cells so far, and then the cells of what is left.
pub record Continues (text : List ℕ) (front : List Coord) (last : Coord) (left : List ℕ) : Type 0 where
  sound : (more : List Coord) (rest : List ℕ) → GoOnAfter last left more rest → AreCellsBefore text (front ++ more) rest
  whole : (cells : List Coord) (rest : List ℕ) → EndsCells rest → AreCellsBefore text cells rest → (more : List Coord) × (cells ≡ front ++ more)
      × GoOnAfter last left more rest

pub later : (c : Coord) (cells : List Coord) → AreInOrder (c ∷ cells) → AreInOrder cells
later c [] h = tt
later c (d ∷ cells) h = h.1

from_origin : (cells : List Coord) → AllByRecursion IsCell cells → AreInOrder cells → AreInOrder (origin ∷ cells)
from_origin [] each order = tt
from_origin (c ∷ cells) each order = grind arith

pub at_start : (text : List ℕ) → Continues text [] origin text
at_start text = grind (arith, later, from_origin)

-- The first of the cells, and what follows it: the rest, or a blank and further cells.
data HasFirst (last : Coord) (left : List ℕ) (more : List Coord) (rest : List ℕ) : Type 0 where
  alone : (c : Coord) → more ≡ c ∷ [] → IsCellBefore left c rest → IsBefore last c → HasFirst last left more rest
  followed : (c : Coord) (others : List Coord) (next : List ℕ) → more ≡ c ∷ others → IsCellBefore left c (32 ∷ next) → IsBefore last c
      → GoOnAfter c next others rest → HasFirst last left more rest

first_of : {last : Coord} {left : List ℕ} (more : List Coord) {rest : List ℕ} → GoOnAfter last left more rest → HasFirst last left more rest
first_of [] h = grind arith
first_of (c ∷ []) h = alone c refl (record { spelled = h.spelled; lawful = h.each.0 }) h.order.0
first_of (c ∷ d ∷ cells) {rest} h =
    followed c (d ∷ cells) (cells_text (d ∷ cells) ++ rest) refl
    (record { spelled = h.spelled ∙ append_assoc (cell_text c) (32 ∷ cells_text (d ∷ cells)) rest; lawful = h.each.0 }) h.order.0
    (record { spelled = refl; some = omega arith; each = h.each.1; order = h.order.1 })

joined : (last c : Coord) (left next : List ℕ) (more : List Coord) (rest : List ℕ) → IsCellBefore left c (32 ∷ next) → IsBefore last c
    → GoOnAfter c next more rest → GoOnAfter last left (c ∷ more) rest
joined last c left next [] rest here before h = grind arith
joined last c left next (d ∷ more) rest here before h = grind (arith, append_assoc)

-- A text that goes on with cells begins with a digit, and so not with `@`.
digit_first : {last : Coord} {left : List ℕ} {more : List Coord} {rest : List ℕ} → HasFirst last left more rest → is_ascii_digit (slice_index left 0) ≡ true
digit_first {left} {rest} (alone c is here before) = begins_with_digit left c rest here
digit_first (followed c others next is here before h) = search (begins_with_digit)

no_sign : {last : Coord} {left : List ℕ} {more : List Coord} {rest : List ℕ} → HasFirst last left more rest → slice_index left 0 ≢ 64
no_sign h = λ e. false≢true (ap is_ascii_digit (sym e) ∙ digit_first h)

pub digit_of_cells : {text : List ℕ} {cells : List Coord} {rest : List ℕ} → EndsCells rest → AreCellsBefore text cells rest
    → is_ascii_digit (slice_index text 0) ≡ true
digit_of_cells {text} {cells} {rest} ends there =
    let w = (at_start text).whole cells rest ends there in digit_first (first_of w.0 w.2)

cells_end : (rest : List ℕ) → EndsCells rest → EndsNumber rest
cells_end [] h = refl
cells_end (b ∷ rest) h = ap is_ascii_digit h.0

sign_after : (rest : List ℕ) {next : List ℕ} → EndsCells rest → rest ≡ 32 ∷ next → slice_index next 0 ≡ 64
sign_after [] ends e = absurd cc
sign_after (b ∷ rest) ends e = search

-- A cell was taken, and it comes after the last one.
record IsTaken (last : Coord) (taken : Option (Coord × List ℕ)) : Type 0 where
  cell : Coord
  after : List ℕ
  is : taken ≡ Some (cell, after)
  before : IsBefore last cell

taken_first : {last : Coord} {left : List ℕ} {more : List Coord} {rest : List ℕ} {taken : Option (Coord × List ℕ)} → TakesCell left taken → EndsCells rest
    → HasFirst last left more rest → IsTaken last taken
taken_first t ends (alone c is here before) = grind (arith, cells_end)
taken_first t ends (followed c others next is here before h) = grind arith

module _ (text : List ℕ) (front : List Coord) (last : Coord) (left : List ℕ) (k : Continues text front last left) where
  taken_there : {taken : Option (Coord × List ℕ)} → TakesCell left taken → (cells : List Coord) (rest : List ℕ) → AreCellsBefore text cells rest →
      EndsCells rest → IsTaken last taken
  taken_there t cells rest there ends =
      let w = k.whole cells rest ends there in
      taken_first t ends (first_of w.0 w.2)

  pub no_cell : TakesCell left None → TakesCells text None
  no_cell t = record { found = tt; only = λ cells rest there ends. let first = taken_there t cells rest there ends in absurd cc }

  pub not_after : {cell : Coord} {after : List ℕ} → TakesCell left (Some (cell, after)) → (IsBefore last cell → ⊥) → TakesCells text None
  not_after {cell} {after} t bad = record {
    found = tt;
    only = λ cells rest there ends.
        let first = taken_there t cells rest there ends in
        grind (arith, some_pair_parts);
  }

  module _ (cell : Coord) (after : List ℕ) (t : TakesCell left (Some (cell, after))) (before : IsBefore last cell) where
    pub last_cell : ((next : List ℕ) → after ≡ 32 ∷ next → slice_index next 0 ≡ 64) → TakesCells text (Some (front ++ cell ∷ [], after))
    last_cell sign = record {
      found = k.sound (cell ∷ []) after (record { spelled = t.found.spelled; some = omega arith; each = (t.found.lawful, tt); order = (before, tt) });
      only = λ cells rest there ends. let w = k.whole cells rest ends there in by_first cells rest ends w.0 w.1 (first_of w.0 w.2);
    }
      where
        by_first : (cells : List Coord) (rest : List ℕ) → EndsCells rest → (more : List Coord) → cells ≡ front ++ more → HasFirst last left more rest
            → taking (front ++ cell ∷ []) after ≡ taking cells rest
        by_first cells rest ends more is (alone c one here _) =
            let same = some_pair_parts cell c after rest (t.only c rest here (cells_end rest ends)) in
            ap (λ d. taking (front ++ d ∷ []) after) same.0 ∙ ap (λ l. taking (front ++ l) after) (sym one) ∙ ap (λ l. taking l after) (sym is)
            ∙ ap (taking cells) same.1
        by_first cells rest ends more is (followed c others next _ here _ h) =
            let same = some_pair_parts cell c after (32 ∷ next) (t.only c (32 ∷ next) here refl) in
            absurd (no_sign (first_of others h) (sign next same.1))

    pub one_more : (next : List ℕ) → after ≡ 32 ∷ next → slice_index next 0 ≢ 64 → Continues text (front ++ cell ∷ []) cell next
    one_more next blank other =
        let here : IsCellBefore left cell (32 ∷ next) = rw blank at t.found in
        record {
          sound = λ more rest h. rw (append_assoc front (cell ∷ []) more) (k.sound (cell ∷ more) rest (joined last cell left next more rest here before h));
          whole = λ cells rest ends there. let w = k.whole cells rest ends there in by_first cells rest ends w.0 w.1 (first_of w.0 w.2);
        }
      where
        by_first : (cells : List Coord) (rest : List ℕ) → EndsCells rest → (more : List Coord) → cells ≡ front ++ more → HasFirst last left more rest
            → (more : List Coord) × (cells ≡ (front ++ cell ∷ []) ++ more) × GoOnAfter cell next more rest
        by_first cells rest ends more is (alone c one here _) =
            let same = some_pair_parts cell c after rest (t.only c rest here (cells_end rest ends)) in
            absurd (other (sign_after rest ends (sym same.1 ∙ blank)))
        by_first cells rest ends more is (followed c others tail one here _ h) =
            let same = some_pair_parts cell c after (32 ∷ tail) (t.only c (32 ∷ tail) here refl) in
            let left_same : tail ≡ next = ap (drop 1) (sym same.1 ∙ blank) in (
              others,
              is ∙ ap (λ l. front ++ l) one ∙ ap (λ d. front ++ d ∷ others) (sym same.0) ∙ sym (append_assoc front (cell ∷ []) others),
              rw (← same.0, left_same) at h,
            )
