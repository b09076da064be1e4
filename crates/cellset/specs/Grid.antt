-- The cells of a grid: as a list in reading order, and those that pass a test as a set.
use Rattle.std.specs.Prelude.{ℕ, zero, suc, ◌+◌, ◌*◌, ◌/◌, ◌%◌, Bool, List, [], ◌∷◌, ◌++◌}
use Rattle.std.specs.List.{filter}
use Rattle.std.specs.FinSet.{from_list}
use Rattle.cellset.specs.Shape.{Extent}
use Rattle.cellset.specs.Cell.{cell_at}
use Rattle.cellset.specs.CellSet.{Cells}
use Rattle.cellset.specs.declared.cell.Cell.{Cell}

-- the cell at an index in reading order, from 0
abbrev pub nth_cell : Extent → ℕ → Cell
nth_cell shape n = cell_at (n % shape.width + 1) (n / shape.width + 1)

-- the first n cells in reading order
unfoldable pub first_cells : Extent → ℕ → List Cell
first_cells shape zero = []
first_cells shape (suc n) = first_cells shape n ++ nth_cell shape n ∷ []

-- the cells of the grid, in reading order
abbrev pub grid_cells : Extent → List Cell
grid_cells shape = first_cells shape (shape.width * shape.height)

-- the cells of the grid that pass a test
unfoldable pub cells_where : Extent → (Cell → Bool) → Cells
cells_where shape test = from_list (filter test (grid_cells shape))
