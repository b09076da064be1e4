-- The rows of a grid as bits: bit k of a row is column k.
use Rattle.std.specs.Prelude.{◌≡◌, ℕ, ◌+◌, ◌*◌, ◌<◌, ◌≤◌, List, length}
use Rattle.cellset.specs.Shape.{Extent, HasSides}
use Rattle.cellset.specs.Cell.{IsOn}
use Rattle.cellset.specs.Grid.{cells_where}
use Rattle.cellset.specs.CellSet.{Cells, CellsOn, Has}
use Rattle.cellset.specs.declared.cell.Cell.{Cell}
use Rattle.reach.specs.Bits.{HasBit}
use Rattle.reach.specs.BitRows.{InRows}
use Rattle.reach.specs.Grown.{in_rows}

-- an empty row 0, then the rows of the grid, n words each, with a bit for each column; no bit off the grid is set; a grid of at most 63
-- columns has rows of one word
pub record AreRowsOf (n : ℕ) (shape : Extent) (rows : List (List ℕ)) : Type 0 where
  pub few : n ≤ 4
  pub wide : shape.width < 64 * n
  pub narrow : shape.width < 64 → n ≡ 1
  pub sides : HasSides shape.width shape.height
  pub long : length rows ≡ shape.height + 1
  pub on : (c : Cell) → InRows rows c → IsOn shape c

-- the cells of the grid whose bits are set
abbrev pub members_in : Extent → List (List ℕ) → Cells
members_in shape rows = cells_where shape (in_rows rows)

-- the words have the row of each cell, and rows of the grid alone
pub record AreRowsQueued (cells : CellsOn) (words : List ℕ) : Type 0 where
  pub all : (c : Cell) → Has cells.members c → HasBit words c.row
  pub within : (k : ℕ) → HasBit words k → k ≤ cells.extent.height
