-- Cells that the definitions read off the front of a text.
-- A coordinate is the digits with which the text begins. A cell is a coordinate, a comma and a coordinate. Cells are read one after the other,
-- as the program does (`TakenCells.antt`), each with at least one byte, so the length of the text is enough steps. What is read is there, and
-- what is there is read.
use Rattle.std.proofs.Common.{◌≡◌, ◌≢◌, ℕ, suc, zero, ◌+◌, ◌≤◌, Bool, true, false, ◌&&◌, cond, List, [], ◌∷◌, ◌++◌, length, take, drop, eqb, leb, Option, Some, None, refl, sym, ◌∙◌, arith, ⊎_elim, append_assoc, take-append-drop, length-append}
use Rattle.std.specs.Prelude.{codes, slice_index}
use Rattle.std.specs.List.{list_all, prefix_len}
use Rattle.std.specs.Char.{is_ascii_digit}
use Rattle.std.specs.Str.{bytes_eq}
use Rattle.std.proofs.lemmas.Bool.{and_from, cases_Bool, eqb-true, eqb-false, false≢true, le-leb, leb-true}
use Rattle.std.proofs.lemmas.Option.{cond_some, some_pair_parts}
use Rattle.std.proofs.lemmas.List.{append-nil, drop_at, nil_from_length, take_at}
use Rattle.std.proofs.lemmas.List.Sums.{prefix_len-le-length, prefix_len_stops}
use Rattle.std.proofs.lemmas.Slice.Eq.{bytes_eq-Decides}
use Rattle.answers.specs.declared.pattern.Coord.{Coord}
use Rattle.answers.specs.Grammar.{IsBefore, IsCellList, cells_text, numeral}
use Rattle.answers.specs.Reading.{◌>>=◌, AreCellsBefore, TakesCell, TakesCells, TakesCoordinate, after_blank, after_prefix, all_cells_in, cell_in, cells_from, cells_in, coordinate_in, is_before, is_number, number_in, some_or}
use Rattle.answers.proofs.Coordinates.{BeginsWithDigits, NoneGoesOn, begins, takes_no_number, takes_number}
use Rattle.answers.proofs.Numerals.{and_true}
use Rattle.answers.proofs.TakenCells.{Continues, at_start, before_from_test, column_there, last_cell, no_cell, not_after, one_more, test_from_before}

-- a chain of two steps that gave a value took both steps
pub chained : {A B : Type 0} (o : Option A) {f : A → Option B} {y : B} → (o >>= f) ≡ Some y → (x : A) × (o ≡ Some x) × (f x ≡ Some y)
chained None e = absurd cc
chained (Some x) e = (x, refl, e)

-- ---- prefixes

pub prefixed : (prefix text rest : List ℕ) → bytes_eq (take (length prefix) text) prefix ≡ true → rest ≡ drop (length prefix) text → text ≡ prefix ++ rest
prefixed prefix text rest same is = grind (arith, bytes_eq-Decides, take-append-drop)

pub prefix_found : (prefix text rest : List ℕ) → after_prefix prefix text ≡ Some rest → text ≡ prefix ++ rest
prefix_found prefix text rest e = grind (arith, cond_some, prefixed)

pub prefix_again : (prefix rest : List ℕ) → after_prefix prefix (prefix ++ rest) ≡ Some rest
prefix_again prefix rest = grind (arith, take_at, drop_at, bytes_eq-Decides)

-- ---- coordinates and cells

-- the front elements that pass, all pass
passes_by : (p : ℕ → Bool) {x : ℕ} (xs : List ℕ) (n : ℕ) (b : Bool) → p x ≡ b → list_all p (take n xs) ≡ true
    → list_all p (take (cond b (1 + n) 0) (x ∷ xs)) ≡ true
passes_by p xs n false fails rest = refl
passes_by p xs n true passes rest = grind arith

front_passes : (p : ℕ → Bool) (xs : List ℕ) → list_all p (take (prefix_len p xs) xs) ≡ true
front_passes p [] = refl
front_passes p (x ∷ xs) = search (passes_by, front_passes p xs)

takes_coordinate : (text : List ℕ) → TakesCoordinate text (coordinate_in text)
unfolding coordinate_in
takes_coordinate text =
    let at = prefix_len is_ascii_digit text in
    let digits = take at text in
    let number = number_in digits in
    let h : BeginsWithDigits text at number = record { within = prefix_len-le-length is_ascii_digit text; digits = front_passes is_ascii_digit text; value = refl } in
    let none : NoneGoesOn text at number = λ within digit. absurd (false≢true (sym (prefix_len_stops is_ascii_digit text 0 within) ∙ digit)) in
    ⊎_elim
    (λ yes.
    let both = and_true (is_number digits) yes in
    let front = and_true (begins digits) both.0 in
    rw yes (takes_number text at number h none front.0 (leb-true number 65535 both.1)))
    (λ no.
    grind (arith, begins, false≢true, and_from, front_passes, le-leb, cases_Bool, takes_no_number))
    (cases_Bool (is_number digits && leb number 65535))

abbrev with_row : ℕ → List ℕ → Option (Coord × List ℕ)
with_row column more = coordinate_in more >>= λ row. Some (record { row = row.0; column = column }, row.1)

module _ (text : List ℕ) where
  row_by : {n m : ℕ} {more rest : List ℕ} → TakesCoordinate text (Some (n, 44 ∷ more)) → TakesCoordinate more (Some (m, rest))
      → TakesCell text (Some (record { row = m; column = n }, rest))
  row_by {n} {m} {more} {rest} column row = grind (arith, some_pair_parts, column_there, append_assoc)

  no_row : {n : ℕ} {more : List ℕ} → TakesCoordinate text (Some (n, 44 ∷ more)) → TakesCoordinate more None → TakesCell text None
  no_row {n} {more} column row = record {
    found = tt;
    only = λ cell after there ends.
        let first = some_pair_parts n cell.column (44 ∷ more) (44 ∷ (numeral cell.row ++ after))
        (column.only cell.column (44 ∷ (numeral cell.row ++ after)) (column_there text cell after there) refl) in
        grind arith;
  }

  with_row_by : {n : ℕ} {more : List ℕ} (o : Option (ℕ × List ℕ)) → TakesCoordinate text (Some (n, 44 ∷ more)) → TakesCoordinate more o
      → TakesCell text (o >>= λ row. Some (record { row = row.0; column = n }, row.1))
  with_row_by None column row = no_row column row
  with_row_by (Some r) column row = row_by column row

  cell_by : (o : Option (ℕ × List ℕ)) → TakesCoordinate text o
      → TakesCell text (o >>= λ column. after_prefix (codes ",") column.1 >>= λ more. with_row column.0 more)
  cell_by None t =
      record {
        found = tt;
        only = λ cell after there ends. let e = t.only cell.column (44 ∷ (numeral cell.row ++ after)) (column_there text cell after there) refl in absurd cc;
      }
  cell_by (Some (n, left)) t = by_comma (after_prefix (codes ",") left) refl
    where
      by_comma : (o : Option (List ℕ)) → after_prefix (codes ",") left ≡ o → TakesCell text (o >>= λ more. with_row n more)
      by_comma None e = record {
        found = tt;
        only = λ cell after there ends.
            let row = numeral cell.row ++ after in
            let same = some_pair_parts n cell.column left (44 ∷ row) (t.only cell.column (44 ∷ row) (column_there text cell after there) refl) in
            grind (arith, prefix_again);
      }
      by_comma (Some more) e =
          let is : left ≡ 44 ∷ more = prefix_found (codes ",") left more e in
          with_row_by (coordinate_in more) (rw is at t) (takes_coordinate more)

takes_cell : (text : List ℕ) → TakesCell text (cell_in text)
unfolding cell_in
takes_cell text = search (cell_by, takes_coordinate)

-- ---- cells

some_else : {A : Type 0} (b : Bool) (x y : A) → cond b None (Some x) ≡ Some y → (b ≡ false) × (x ≡ y)
some_else true x y e = absurd cc
some_else false x y e = (refl, cc)

none_then : {A : Type 0} (b : Bool) (x : A) → cond b None (Some x) ≡ None → b ≡ true
none_then true x e = refl
none_then false x e = absurd cc

blank_found : {text next : List ℕ} → after_blank text ≡ Some next → (text ≡ 32 ∷ next) × (slice_index next 0 ≢ 64)
unfolding after_blank
blank_found e = grind (arith, chained, some_else, prefix_found, eqb-false)

no_blank : (text next : List ℕ) → after_blank text ≡ None → text ≡ 32 ∷ next → slice_index next 0 ≡ 64
unfolding after_blank
no_blank text next e is = grind (arith, prefix_again, eqb-true, none_then)

nothing : (left : List ℕ) → length left ≤ 0 → TakesCell left None
unfolding cell_in coordinate_in
nothing [] few = takes_cell []
nothing (b ∷ left) few = absurd (omega arith)

module _ (n : ℕ) (text : List ℕ) (front : List Coord) (last : Coord) (left : List ℕ) (few : length left ≤ suc n) (k : Continues text front last left)
    (more : (cell : Coord) (next : List ℕ) → length next ≤ n → Continues text (front ++ cell ∷ []) cell next
    → TakesCells text (cells_from n (front ++ cell ∷ []) cell next)) where
  by_next : {cell : Coord} {after : List ℕ} → TakesCell left (Some (cell, after)) → IsBefore last cell → (o : Option (List ℕ)) → after_blank after ≡ o
      → TakesCells text (some_or (front ++ cell ∷ [], after) (λ next. cells_from n (front ++ cell ∷ []) cell next) o)
  by_next t before None e = search (last_cell, no_blank)
  by_next {cell} {after} t before (Some next) e = grind (arith, blank_found, one_more, length-append)

  by_cell : (o : Option (Coord × List ℕ)) → TakesCell left o → TakesCells text (o >>= λ t. cond (is_before last t.0)
      (some_or (front ++ t.0 ∷ [], t.1) (λ next. cells_from n (front ++ t.0 ∷ []) t.0 next) (after_blank t.1)) None)
  by_cell None t = no_cell text front last left k t
  by_cell (Some (cell, after)) t = ⊎_elim
      (λ yes. rw yes (by_next t (before_from_test yes) (after_blank after) refl))
      (λ no. rw no (not_after text front last left k t (λ before. false≢true (sym no ∙ test_from_before before)))) (cases_Bool (is_before last cell))

continued : (n : ℕ) {text : List ℕ} {front : List Coord} {last : Coord} {left : List ℕ} → length left ≤ n → Continues text front last left
    → TakesCells text (cells_from n front last left)
continued zero few k = search (no_cell, nothing)
continued (suc n) {text} {front} {last} {left} few k = by_cell n text front last left few k
    (λ cell next small goes. continued n small goes) (cell_in left) (takes_cell left)

pub takes_cells : (text : List ℕ) → TakesCells text (cells_in text)
takes_cells text = continued (length text) (omega arith) (at_start text)

-- ---- texts that are cells

pub record AreCellsText (text : List ℕ) (cells : List Coord) : Type 0 where
  pub spelled : text ≡ cells_text cells
  pub lawful : IsCellList cells

pub cells_found : {text : List ℕ} {cells : List Coord} → all_cells_in text ≡ Some cells → AreCellsText text cells
unfolding all_cells_in
cells_found {text} {cells} e =
    let a = chained (cells_in text) e in
    let b = cond_some (eqb (length a.0.1) 0) a.0.0 cells a.2 in
    let there : AreCellsBefore text a.0.0 a.0.1 = (rw a.1 at (takes_cells text)).found in
    grind (arith, nil_from_length, eqb-true, append-nil)

pub cells_again : {cells : List Coord} → IsCellList cells → all_cells_in (cells_text cells) ≡ Some cells
unfolding all_cells_in
cells_again {cells} h = rw ((takes_cells (cells_text cells)).only cells [] (record { spelled = sym (append-nil (cells_text cells)); lawful = h }) tt) refl

pub all_cells : {text : List ℕ} {cells : List Coord} → TakesCells text (Some (cells, [])) → Some cells ≡ all_cells_in text
all_cells t = grind (arith, append-nil, cells_again)

pub not_all_cells : {text : List ℕ} {taken : Option (List Coord × List ℕ)} → TakesCells text taken → ((cells : List Coord) → taken ≡ Some (cells, []) → ⊥)
    → None ≡ all_cells_in text
not_all_cells {text} t other = by_case (all_cells_in text) refl
  where
    by_case : (o : Option (List Coord)) → all_cells_in text ≡ o → None ≡ o
    by_case None e = refl
    by_case (Some cells) e =
        let is = cells_found e in
        absurd (other cells (t.only cells [] (record { spelled = is.spelled ∙ sym (append-nil (cells_text cells)); lawful = is.lawful }) tt))
