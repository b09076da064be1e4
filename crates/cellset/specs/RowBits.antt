-- A row in parts of 64 columns, each as the bits of a number.
use Rattle.std.specs.Prelude.{◌≡◌, ℕ, zero, suc, ◌+◌, ◌*◌, ◌<◌, true, cond}
use Rattle.std.specs.FinSet.{contains}
use Rattle.std.specs.FinSet as set
use Rattle.cellset.specs.Shape.{Extent}
use Rattle.cellset.specs.Cell.{IsOn, cell_at}
use Rattle.cellset.specs.CellSet.{Cells}
use Rattle.cellset.specs.Bits.{bit}
use Rattle.cellset.specs.declared.cell.Cell.{Cell}

-- the cell of bit k of a part
abbrev pub row_cell : ℕ → ℕ → ℕ → Cell
row_cell row part k = cell_at (64 * part + k) row

-- a bit is set exactly if its cell is a member
abbrev pub IsRowOf : Cells → ℕ → ℕ → ℕ → Type 0
IsRowOf s row part bits = (k : ℕ) → k < 64 → bit bits k ≡ contains s (row_cell row part k)

-- a bit is set only if its cell lies on the grid
abbrev pub IsRowOn : Extent → ℕ → ℕ → ℕ → Type 0
IsRowOn shape row part bits = (k : ℕ) → k < 64 → bit bits k ≡ true → IsOn shape (row_cell row part k)

-- the cells of the bits that are set, among the first n
unfoldable pub first_of_row : ℕ → ℕ → ℕ → ℕ → Cells
first_of_row row part bits zero = set.empty
first_of_row row part bits (suc n) = cond (bit bits n) (set.insert (first_of_row row part bits n) (row_cell row part n)) (first_of_row row part bits n)

-- the cells of all bits that are set
abbrev pub cells_of_row : ℕ → ℕ → ℕ → Cells
cells_of_row row part bits = first_of_row row part bits 64
