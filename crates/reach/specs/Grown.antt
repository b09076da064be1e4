-- One look of a flood at a row, for steps of any kind.
use Rattle.std.specs.Prelude.{◌≡◌, ℕ, ◌+◌, ◌/◌, ◌%◌, ◌<◌, ◌≤◌, ◌⊎◌, Bool, true, List, [], slice_index, slice_index_or}
use Rattle.cellset.specs.Bits.{bit}
use Rattle.cellset.specs.Shape.{Extent}
use Rattle.cellset.specs.Cell.{IsOn}
use Rattle.cellset.specs.declared.cell.Cell.{Cell}
use Rattle.reach.specs.BitRows.{InRows}
use Rattle.reach.specs.Reached.{Reached}

-- the cell's bit is set, as a test
abbrev pub in_rows : List (List ℕ) → Cell → Bool
in_rows rows c = bit (slice_index (slice_index_or rows c.row []) (c.column / 64)) (c.column % 64)

-- the cell passes the test
abbrev pub Passes : (Cell → Bool) → Cell → Type 0
Passes test c = test c ≡ true

-- all cells lie on the grid
abbrev pub IsAllOn : Extent → (Cell → Type 0) → Type 0
IsAllOn shape Cells = (c : Cell) → Cells c → IsOn shape c

-- row y is right above the row
abbrev pub IsAbove : ℕ → ℕ → Type 0
IsAbove row y = y + 1 ≡ row

-- row y is right below the row
abbrev pub IsBelow : ℕ → ℕ → Type 0
IsBelow row y = y ≡ row + 1

-- the second cell is in the row of the first, or in its column in the row above or below
abbrev pub IsBeside : Cell → Cell → Type 0
IsBeside b c = (c.row ≡ b.row) ⊎ ((c.column ≡ b.column) × (IsAbove b.row c.row ⊎ IsBelow b.row c.row))

-- no cell is in row 0 or column 0
abbrev pub AreInside : List (List ℕ) → Type 0
AreInside rows = (c : Cell) → InRows rows c → (1 ≤ c.row) × (1 ≤ c.column)

-- the region grew only by cells of the row `to` that a step from the region reaches, and if it grew, that row is in the worklist; if the
-- row exists, no step from `row` to it within a column leads out of the new region
pub record IsOffered (Leads : Cell → Cell → Type 0) (row to rows : ℕ)
    (Region : Cell → Type 0) (Waits : ℕ → Type 0) (NewRegion : Cell → Type 0) (NewWaits : ℕ → Type 0) : Type 0 where
  pub kept : (c : Cell) → Region c → NewRegion c
  pub added : (c : Cell) → NewRegion c → Region c ⊎ ((c.row ≡ to) × NewWaits c.row × ((b : Cell) × (Region b × Leads b c)))
  pub all : (b c : Cell) → b.row ≡ row → c.row ≡ to → c.row < rows → c.column ≡ b.column → Region b → Leads b c → NewRegion c
  pub waits : (k : ℕ) → Waits k → NewWaits k

-- the region grew by cells that are reached from it, each in the row that was looked at or in one of the worklist; no step from the
-- row that was looked at leads out of the new region
pub record IsLookedAt (Leads : Cell → Cell → Type 0) (row : ℕ)
    (Region : Cell → Type 0) (Waits : ℕ → Type 0) (NewRegion : Cell → Type 0) (NewWaits : ℕ → Type 0) : Type 0 where
  pub kept : (c : Cell) → Region c → NewRegion c
  pub sound : (c : Cell) → NewRegion c → Reached Leads Region c
  pub added : (c : Cell) → NewRegion c → Region c ⊎ (c.row ≡ row) ⊎ NewWaits c.row
  pub here : (b c : Cell) → b.row ≡ row → NewRegion b → Leads b c → NewRegion c
  pub waits : (k : ℕ) → Waits k → NewWaits k
