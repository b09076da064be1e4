-- What writing one row of a region does to the region's cells.
use Rattle.std.proofs.Common.{◌≡◌, ℕ, ◌+◌, ◌-◌, ◌*◌, ◌/◌, ◌%◌, ◌^◌, ◌<◌, List, [], length, get_or, refl, sym, ◌∙◌, ap, inl, inr, arith}
use Rattle.std.specs.Prelude.{◌⊎◌, ◌↔◌}
use Rattle.std.proofs.Math.ListN.{set}
use Rattle.std.proofs.lemmas.Bool.{cases_eq}
use Rattle.cellset.specs.Cell.{cell_at}
use Rattle.cellset.specs.CellSet.{Has, Lacks}
use Rattle.cellset.specs.RowBits.{row_cell, cells_of_row}
use Rattle.cellset.specs.declared.cell.Cell.{Cell}
use Rattle.cellset.proofs.Members.{lacks_where, not_both}
use Rattle.cellset.proofs.Rows.{has_in_row, row_has}
use Rattle.cellset.proofs.Truth.{either}
use Rattle.reach.specs.Bits.{Bit, HasBit}
use Rattle.reach.specs.BitRows.{InRows}
use Rattle.reach.proofs.Many.{at_same, at_other, at_cases}
use Rattle.reach.proofs.Words.{bit_below, bit_shl, bit_shl_from}

-- the row has the columns Here, and the other rows are unchanged
pub record IsWritten (Region : Cell → Type 0) (row : ℕ) (Here : ℕ → Type 0) (NewRegion : Cell → Type 0) : Type 0 where
  pub same : (c : Cell) → c.row ≡ row → Here c.column → NewRegion c
  pub other : (c : Cell) → (c.row ≡ row → ⊥) → Region c → NewRegion c
  pub only : (c : Cell) → NewRegion c → ((c.row ≡ row) × Here c.column) ⊎ ((c.row ≡ row → ⊥) × Region c)

-- a cell of a row is a bit of the row
pub to_row : (rows : List (List ℕ)) (y : ℕ) (c : Cell) → c.row ≡ y → InRows rows c → HasBit (get_or rows y []) c.column
to_row rows y c e h = search

pub of_row : (rows : List (List ℕ)) (y : ℕ) (c : Cell) → c.row ≡ y → HasBit (get_or rows y []) c.column → InRows rows c
of_row rows y c e h = search

-- a cell is the cell of its column and its row
pub as_at : (c : Cell) (y : ℕ) → c.row ≡ y → cell_at c.column y ≡ c
as_at c y e = grind arith

pub row_written : (region : List (List ℕ)) (y : ℕ) (row : List ℕ) → y < length region → IsWritten (InRows region) y (HasBit row) (InRows (set region y row))
row_written region y row within = record {
  same = λ c e h. at_same (λ (r : List ℕ). HasBit r c.column) region y row c.row [] within e h;
  other = λ c ne h. at_other (λ (r : List ℕ). HasBit r c.column) region y row c.row [] ne h;
  only = λ c h. at_cases (λ (r : List ℕ). HasBit r c.column) region y row c.row [] within h (λ e b. inl (e, b)) (λ ne old. inr (ne, old));
}

-- ---- one cell more or less
module _ (items : List (List ℕ)) (y : ℕ) (row : List ℕ) (cell : Cell) (within : y < length items) (at : y ≡ cell.row) where
  written : IsWritten (InRows items) y (HasBit row) (InRows (set items y row))
  written = row_written items y row within

  pub cell_added : ((k : ℕ) → HasBit row k ↔ (HasBit (get_or items y []) k ⊎ (k ≡ cell.column))) → (p : Cell)
      → InRows (set items y row) p ↔ (InRows items p ⊎ (p ≡ cell))
  cell_added bits p = (
    (λ h. either (written.only p h)
        (λ (e, bit). either ((bits p.column).0 bit)
        (λ old. inl (of_row items y p e old))
        (λ column. inr (λ j. record { row = (e ∙ at) j; column = column j })))
        (λ (_, old). inl old)),
    (λ h. either h
        (λ old. elim (cases_eq p.row y) [
          | inl e ↦ written.same p e ((bits p.column).1 (inl (to_row items y p e old)))
          | inr ne ↦ written.other p ne old
        ])
        (λ is. written.same p (ap (λ (x : Cell). x.row) is ∙ sym at) ((bits p.column).1 (inr (ap (λ (x : Cell). x.column) is))))),
  )

-- ---- the cells of a part of a row
-- a cell is in a part if its bit is
pub in_part : (y part bits : ℕ) (p : Cell) → Has (cells_of_row y part bits) p ↔ ((p.row ≡ y) × (p.column / 64 ≡ part) × Bit bits (p.column % 64))
in_part y part bits p = (
  (λ h. let i = has_in_row y part bits 64 p h in let column : p.column ≡ 64 * part + i.k = ap (λ (c : Cell). c.column) i.here in grind arith),
  (λ here. let place : p ≡ row_cell y part (p.column % 64) = grind arith in grind (arith, row_has)),
)

-- the part of one bit has one cell
pub one_bit : (cell p : Cell) → Has (cells_of_row cell.row (cell.column / 64) (1 * 2 ^ (cell.column % 64) % 2 ^ 64)) p ↔ (p ≡ cell)
one_bit cell p = (
  (λ has. let (row, part, b) = (in_part _ _ _ p).0 has in
      let (_, from, low) = bit_shl 1 (cell.column % 64) 64 (p.column % 64) b in
      let one = bit_below 1 1 (p.column % 64 - cell.column % 64) (omega arith) low in
      grind arith),
  (λ here. let none : cell.column % 64 - cell.column % 64 ≡ 0 = omega arith in
      rw here ((in_part _ _ _ cell).1 (refl, refl, bit_shl_from 1 _ 64 _ (omega arith) (omega arith) (rw none (record { is = refl }))))),
)

-- a row without the bits of a part lacks the cells of the part
pub cells_removed : (items : List (List ℕ)) (y part bits : ℕ) (row : List ℕ) → y < length items
    → ((k : ℕ) → HasBit row k ↔ (HasBit (get_or items y []) k × (k / 64 ≡ part → Bit bits (k % 64) → ⊥))) → (p : Cell)
    → InRows (set items y row) p ↔ (InRows items p × Lacks (cells_of_row y part bits) p)
cells_removed items y part bits row within told p =
    let written = row_written items y row within in (
      (λ h. either (written.only p h)
          (λ (e, bit). grind (arith, in_part, lacks_where))
          (λ (ne, old). grind (arith, in_part, lacks_where))),
      (λ (old, lacks). elim (cases_eq p.row y) [
        | inl e ↦ written.same p e ((told p.column).1 (to_row items y p e old, λ at b. not_both _ p ((in_part y part bits p).1 (e, at, b)) lacks))
        | inr other ↦ written.other p other old
      ]),
    )
