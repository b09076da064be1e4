-- Sorted lists of cells of a grid.
use Rattle.std.specs.Prelude.{◌≡◌, ℕ, ◌+◌, ◌-◌, ◌*◌, ◌<◌, ◌≤◌, List, length, take, drop, slice_index_or}
use Rattle.std.specs.List.{AllByRecursion}
use Rattle.std.specs.List.Sorted.{IsStrictlySortedBy}
use Rattle.std.specs.FinSet.{from_list}
use Rattle.cellset.specs.Shape.{Extent}
use Rattle.cellset.specs.Cell.{IsOn, Before, cell_cmp}
use Rattle.cellset.specs.CellSet.{Cells}
use Rattle.cellset.specs.declared.cell.Cell.{Cell}

-- the cells rise in reading order
abbrev pub IsSorted : List Cell → Type 0
IsSorted = IsStrictlySortedBy cell_cmp

-- the cells are on the grid and in reading order, with room for all cells of the grid
pub record IsSortedOn (shape : Extent) (cells : List Cell) (room : ℕ) : Type 0 where
  pub sorted : IsSorted cells
  pub on : AllByRecursion (IsOn shape) cells
  pub fits : shape.width * shape.height ≤ room

-- the cell is at index i
pub record IsFound (cells : List Cell) (c : Cell) (i : ℕ) : Type 0 where
  pub within : i < length cells
  pub is : slice_index_or cells i c ≡ c

-- the cell is not in the list, and belongs at i
pub record IsGap (cells : List Cell) (c : Cell) (i : ℕ) : Type 0 where
  pub within : i ≤ length cells
  pub below : AllByRecursion (λ y. Before y c) (take i cells)
  pub above : AllByRecursion (λ y. Before c y) (drop i cells)

-- the set of a list's cells
abbrev pub set_of : List Cell → Cells
set_of cells = from_list cells

-- the index of a cell in reading order, from 0
abbrev pub index : Extent → Cell → ℕ
index shape c = (c.row - 1) * shape.width + (c.column - 1)
