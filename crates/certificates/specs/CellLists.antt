-- Lists of cells, and lists of coordinates. A list stands for the set of its cells, whatever their order.
use Rattle.std.specs.Prelude.{ℕ, List, map, slice_index_or}
use Rattle.std.specs.FinSet as set
use Rattle.cellset.specs.{Cell.cell_at, CellSet.Cells, declared.cell.Cell.Cell}
use Rattle.answers.specs.declared.pattern.Coord.{Coord}

-- the set of a list of cells, and the cell of a number in it
abbrev pub cells_in : List Cell → Cells
cells_in cells = set.from_list cells

abbrev pub cell_no : List Cell → ℕ → Cell
cell_no cells i = slice_index_or cells i (record { row = 0; column = 0 })

-- the cell of a coordinate
abbrev pub cell_of : Coord → Cell
cell_of c = cell_at c.column c.row

-- the set of the cells of a list of coordinates
abbrev pub cells_of : List Coord → Cells
cells_of coords = set.from_list (map cell_of coords)
