-- Lists of the cells of a set up to a position in reading order.
use Rattle.std.specs.Prelude.{ℕ, List}
use Rattle.cellset.specs.CellSet.{Cells, Has}
use Rattle.cellset.specs.declared.cell.Cell.{Cell}
use Rattle.answers.specs.declared.pattern.Coord.{Coord}
use Rattle.answers.specs.Grammar.{AreInOrder, IsBefore}
use Rattle.certificates.specs.CellLists.{cells_of}
use Rattle.maker.specs.Made.{coord_of}

-- The cell comes before this row and column in reading order.
abbrev pub IsEarlier : ℕ → ℕ → Cell → Type 0
IsEarlier row column c = IsBefore (coord_of c) (record { row = row; column = column })

-- The list has the coordinates of the set's cells before this row and column, each once, in reading order.
pub record IsListedTo (cells : Cells) (row column : ℕ) (coords : List Coord) : Type 0 where
  pub only : (c : Cell) → Has (cells_of coords) c → Has cells c × IsEarlier row column c
  pub all : (c : Cell) → Has cells c → IsEarlier row column c → Has (cells_of coords) c
  pub order : AreInOrder coords
