-- A set of cells as bits: a cell's bit is at the cell's index in reading order.
use Rattle.std.specs.Prelude.{◌≡◌, ℕ, ◌+◌, ◌-◌, ◌*◌, ◌/◌, ◌≤◌, false, List, length}
use Rattle.cellset.specs.Shape.{Extent, HasSides}
use Rattle.cellset.specs.Cell.{IsOn, cell_at}
use Rattle.cellset.specs.Grid.{cells_where}
use Rattle.cellset.specs.CellSet.{Cells}
use Rattle.cellset.specs.SortedList.{index}
use Rattle.cellset.specs.Bits.{has_bit}
use Rattle.cellset.specs.declared.cell.Cell.{Cell}

-- the words have a bit for each cell of the grid, and no other bit is set
pub record IsBitsOf (shape : Extent) (words : List ℕ) : Type 0 where
  pub sides : HasSides shape.width shape.height
  pub len : length words ≡ (shape.width * shape.height + 63) / 64
  pub clear : (n : ℕ) → shape.width * shape.height ≤ n → has_bit words n ≡ false

-- the cells of the grid whose bits are set
abbrev pub members_of : Extent → List ℕ → Cells
members_of shape words = cells_where shape (λ c. has_bit words (index shape c))

-- the cell at an index in reading order
pub record IsAt (shape : Extent) (n : ℕ) (c : Cell) : Type 0 where
  pub on : IsOn shape c
  pub at : index shape c ≡ n

-- the first cell of a part of a row; bit 0 of part 0 is no cell's
abbrev pub first_cell : ℕ → ℕ → Cell
first_cell row part = cell_at (64 * part + (1 - part)) row
