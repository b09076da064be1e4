-- How a row of words is read or written part by part, and the rows of a grid one after another.
use Rattle.std.proofs.Common.{◌≡◌, ℕ, ◌+◌, ◌*◌, ◌/◌, ◌%◌, ◌^◌, ◌<◌, ◌≤◌, List, length, get_or, refl, sym, ◌∙◌, ap, inl, inr, arith}
use Rattle.std.specs.Prelude.{◌⊎◌, ◌↔◌, ◌||◌}
use Rattle.std.specs.FinSet as finset
use Rattle.std.specs.FinSet.{contains, contains-union}
use Rattle.std.proofs.Math.ListN.{set, length-set}
use Rattle.std.proofs.lemmas.Bool.{cases_lt, cases_eq}
use Rattle.std.proofs.lemmas.List.{get_or_past}
use Rattle.cellset.specs.Cell.{cell_at}
use Rattle.cellset.specs.CellSet.{Cells, Has}
use Rattle.cellset.specs.RowBits.{IsRowOf, cells_of_row}
use Rattle.cellset.specs.declared.cell.Cell.{Cell}
use Rattle.cellset.proofs.Members.{cells_total}
use Rattle.cellset.proofs.Rows.{has_in_row, row_has}
use Rattle.cellset.proofs.Truth.{either, left_true, right_true, or_cases}
use Rattle.reach.specs.Bits.{Bit, HasBit}
use Rattle.reach.proofs.Words.{bit_below, no_bit_zero}
use Rattle.reach.specs.BitRows.{InRows}
use Rattle.reach.proofs.Many.{wrote_same, wrote_other, wrote_cases}
use Rattle.reach.proofs.Carries.{of_word}
use Rattle.reach.proofs.Written.{IsWritten, row_written, as_at}

-- the words below i have the columns at which P holds, and the others have none
pub record IsLoaded (P : ℕ → Type 0) (n i : ℕ) (row : List ℕ) : Type 0 where
  pub long : length row ≡ n
  pub bits : (k : ℕ) → HasBit row k ↔ ((k < 64 * i) × P k)

pub loaded_more : (P : ℕ → Type 0) (n i : ℕ) (row : List ℕ) (word : ℕ) → i < n → IsLoaded P n i row → ((k : ℕ) → Bit word k ↔ ((k < 64) × P (64 * i + k)))
    → IsLoaded P n (i + 1) (set row i word)
loaded_more P n i row word within l is = grind (arith, length-set, there, back)
  where
    in_row : i < length row
    in_row = let e = l.long in omega arith

    there : (k : ℕ) → HasBit (set row i word) k → (k < 64 * (i + 1)) × P k
    there k h = wrote_cases row i word (k / 64) (k % 64) in_row h
        (λ e b. grind arith)
        (λ _ old. let o = (l.bits k).0 old in let low = o.0 in (omega arith, o.1))

    back : (k : ℕ) → (k < 64 * (i + 1)) × P k → HasBit (set row i word) k
    back k (low, p) = grind (arith, cases_eq, wrote_same, wrote_other, in_row)

-- ---- a part of a row of a set, as bits
pub row_tells : (s : Cells) (y i word : ℕ) → word < 2 ^ 64 → IsRowOf s y i word → (k : ℕ) → Bit word k ↔ ((k < 64) × Has s (cell_at (64 * i + k) y))
row_tells s y i word fits is k = (
  (λ b. let below = bit_below word 64 k fits b in (below, sym (is k below) ∙ b.is)),
  (λ (below, has). record { is = is k below ∙ has }),
)

module _ (old new : Cells) (y i word : ℕ) (fits : word < 2 ^ 64) (union : new ≡ finset.union old (cells_of_row y i word)) where
  now_contains : (c : Cell) → contains new c ≡ (contains old c || contains (cells_of_row y i word) c)
  now_contains c = ap (λ s. contains s c) union ∙ contains-union cells_total old (cells_of_row y i word) c

  pub row_kept : (c : Cell) → Has old c → Has new c
  row_kept c h = search (now_contains, left_true)

  pub row_added : (k : ℕ) → Bit word k → Has new (cell_at (64 * i + k) y)
  row_added k b = search (now_contains, right_true, row_has, bit_below)

  pub row_only : (c : Cell) → Has new c → Has old c ⊎ ((k : ℕ) × (c ≡ cell_at (64 * i + k) y) × Bit word k)
  row_only c h = or_cases (contains old c) (contains (cells_of_row y i word) c) (sym (now_contains c) ∙ h) (λ was. inl was)
      (λ here. let in_row = has_in_row y i word 64 c here in inr (in_row.k, in_row.here, record { is = in_row.is_set }))

-- ---- a row that is stored part by part
pub record IsStored (start now : Cells) (row : List ℕ) (y i : ℕ) : Type 0 where
  pub kept : (c : Cell) → Has start c → Has now c
  pub there : (c : Cell) → Has now c → Has start c ⊎ ((c.row ≡ y) × HasBit row c.column)
  pub done : (c : Cell) → c.row ≡ y → c.column < 64 * i → HasBit row c.column → Has now c

pub stored_more : (start now next : Cells) (row : List ℕ) (y i word : ℕ) → word ≡ get_or row i 0 → word < 2 ^ 64 → ((c : Cell) → Has now c → Has next c)
    → ((k : ℕ) → Bit word k → Has next (cell_at (64 * i + k) y)) → ((c : Cell) → Has next c → Has now c ⊎ ((k : ℕ) × (c ≡ cell_at (64 * i + k) y) × Bit word k))
    → IsStored start now row y i → IsStored start next row y (i + 1)
stored_more start now next row y i word word_is fits kept added only s = record {
  kept = λ c h. kept c (s.kept c h);
  there = λ c h. either (only c h) (λ old. s.there c old) (λ (k, e, b). inr (
    ap (λ (q : Cell). q.row) e,
    rw (ap (λ (q : Cell). q.column) e) (of_word row i k (64 * i + k) (bit_below word 64 k fits b) refl (rw word_is at b)),
  ));
  done = λ c e low h. grind arith;
}

-- ---- rows past the last have no cell
pub none_past : (rows : List (List ℕ)) (c : Cell) → length rows ≤ c.row → InRows rows c → ⊥
none_past rows c past h = grind (arith, no_bit_zero, get_or_past)

-- ---- rows that are written one after another
-- the rows before y have the cells of Done, the other rows the cells of Rest
pub record AreDone (Done Rest : Cell → Type 0) (y : ℕ) (rows : List (List ℕ)) : Type 0 where
  pub done : (c : Cell) → c.row < y → InRows rows c ↔ Done c
  pub rest : (c : Cell) → y ≤ c.row → InRows rows c ↔ Rest c

pub done_more : (Done Rest : Cell → Type 0) (y : ℕ) (rows : List (List ℕ)) (row : List ℕ) → y < length rows → AreDone Done Rest y rows
    → ((k : ℕ) → HasBit row k ↔ Done (cell_at k y)) → AreDone Done Rest (y + 1) (set rows y row)
done_more Done Rest y rows row within before is = record {
  done = λ c low. (
    (λ h. either (written.only c h) (λ (e, bit). rw (as_at c y e) at ((is c.column).0 bit)) (λ (ne, old). (before.done c (omega arith)).0 old)),
    (λ d. elim (cases_eq c.row y) [
      | inl e ↦ written.same c e ((is c.column).1 (rw (as_at c y e) d))
      | inr ne ↦ written.other c ne ((before.done c (omega arith)).1 d)
    ]),
  );
  rest = λ c high. (
    (λ h. either (written.only c h) (λ (e, _). absurd (omega arith)) (λ (_, old). (before.rest c (omega arith)).0 old)),
    (λ r. written.other c (λ e. omega arith) ((before.rest c (omega arith)).1 r)),
  );
}
  where
    written : IsWritten (InRows rows) y (HasBit row) (InRows (set rows y row))
    written = row_written rows y row within

-- a row with a cell is one of the rows
pub row_below : (rows : List (List ℕ)) (c : Cell) → InRows rows c → c.row < length rows
row_below rows c h = grind (arith, cases_lt, none_past)

pub done_all : (Done Rest : Cell → Type 0) (n : ℕ) (rows : List (List ℕ)) → length rows ≤ n → ((c : Cell) → Done c → c.row < n) → AreDone Done Rest n rows
    → (c : Cell) → InRows rows c ↔ Done c
done_all Done Rest n rows whole within all c = grind (arith, row_below)
