-- The mailbox of a replay: a board as bytes, one a cell, so that a step is one addition.
--   place    the index of a cell's byte: rows are 256 apart, and places are numbers of 16 bits, so the places
--            of row 256 are the places of row 0 again
--   near     on the grid, or one row or one column beyond it
--   stride   what a step adds to a place
--   shown    what the byte of a cell says of it: that it is free, a wall or a box
use Rattle.std.specs.Prelude.{◌≡◌, ◌⊎◌, ℕ, ◌+◌, ◌*◌, ◌%◌, ◌^◌, ◌<◌, ◌≤◌, List, length, min, slice_index}
use Rattle.std.specs.FinSet.{empty}
use Rattle.cellset.specs.Shape.{Extent}
use Rattle.cellset.specs.CellSet.{Cells, Has, Lacks}
use Rattle.cellset.specs.declared.cell.Cell.{Cell}
use Rattle.cellset.specs.declared.dir.Dir.{Dir}
use Rattle.cellset.specs.declared.dir.Dir.TheVariants.{L, U, R, D}
use Rattle.board.specs.Game.{Level, IsFloor}
use Rattle.play.specs.State.{IsWall}
use Rattle.play.specs.declared.mailbox.TheConstants.{FREE, WALL, BOX}

-- the place of a cell: the index of its byte in the mailbox
abbrev pub place_of : Cell → ℕ
place_of c = (256 * c.row + c.column) % 2 ^ 16

-- what a step adds to a place: 2 ^ 16 - 1 for a column back, and 2 ^ 16 - 256 for a row back
abbrev pub stride : Dir → ℕ
stride L = 65535
stride U = 65280
stride R = 1
stride D = 256

-- the cell is on the grid, or one row or one column beyond it, and not both
pub record IsNear (shape : Extent) (c : Cell) : Type 0 where
  pub bottom : c.row ≤ shape.height + 1
  pub right : c.column ≤ shape.width + 1
  pub corner : c.row + c.column ≤ shape.height + shape.width + 1

-- each of these cells has a byte
abbrev pub HasPlaces : Extent → List ℕ → Type 0
HasPlaces shape mailbox = (c : Cell) → IsNear shape c → place_of c < length mailbox

-- the byte of a cell: floor without a box, a wall without a box, or a box on floor
abbrev pub IsShown : Level → Cells → Cell → ℕ → Type 0
IsShown level boxes c byte =
    ((byte ≡ FREE) × IsFloor level c × Lacks boxes c)
    ⊎ (((byte ≡ WALL) × IsWall level c × Lacks boxes c)
    ⊎ ((byte ≡ BOX) × IsFloor level c × Has boxes c))

-- the bytes of the cells on the grid and around it show the level's walls and these boxes
pub record IsMailboxOf (level : Level) (boxes : Cells) (mailbox : List ℕ) : Type 0 where
  pub places : HasPlaces level.shape mailbox
  pub shown : (c : Cell) → IsNear level.shape c → IsShown level boxes c (slice_index mailbox (place_of c))

-- the number of bytes is a power of two, and at most that of the places
abbrev pub HasMask : List ℕ → Type 0
HasMask mailbox = (k : ℕ) × (k ≤ 16) × (length mailbox ≡ 2 ^ k)

-- the bytes of the cells on the grid and around it whose places are below n are drawn, without boxes
pub record IsDrawnBelow (level : Level) (n : ℕ) (mailbox : List ℕ) : Type 0 where
  pub rows : 256 * min (level.shape.height + 2) 256 ≤ length mailbox
  pub drawn : (c : Cell) → IsNear level.shape c → place_of c < n → IsShown level empty c (slice_index mailbox (place_of c))
