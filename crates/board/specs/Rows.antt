-- What a board is: the level that rows of characters draw.
--   wall      `#`
--   goal      `.`, or `*` under a box, or `+` under the player
--   box       `$`, or `*` on a goal
--   player    `@`, or `+` on a goal; exactly one cell has one
--   nothing   every other character: floor with nothing on it; past the end of a short row, and off the rows, all is spaces
use Rattle.std.specs.Prelude.{◌≡◌, ◌↔◌, ℕ, zero, suc, max, Bool, true, ◌==◌, List, [], ◌∷◌, length, codes, slice_index_or}
use Rattle.std.specs.FinSet.{contains}
use Rattle.std.specs.List.{list_any}
use Rattle.cellset.specs.CellSet.{Cells}
use Rattle.cellset.specs.declared.cell.Cell.{Cell}
use Rattle.board.specs.Game.{Level}

-- the byte is one of these characters
abbrev pub is_one_of : List ℕ → ℕ → Bool
is_one_of characters byte = list_any (λ character. byte == character) characters

-- the k-th of a list, counted from 1, or the default if there is none
abbrev pub nth : {A : Type 0} → List A → ℕ → A → A
nth xs zero default = default
nth xs (suc k) default = slice_index_or xs k default

-- the character of a cell: a space (32) past the end of a short row, and off the rows
abbrev pub character_at : List (List ℕ) → Cell → ℕ
character_at rows c = nth (nth rows c.row []) c.column 32

-- the cells are exactly the cells of these characters
abbrev pub Shows : List ℕ → List (List ℕ) → Cells → Type 0
Shows characters rows cells = (c : Cell) → contains cells c ≡ is_one_of characters (character_at rows c)

-- the length of the longest row
abbrev pub width_of : List (List ℕ) → ℕ
width_of [] = 0
width_of (row ∷ rows) = max (length row) (width_of rows)

-- the rows draw the level: it is as wide as the longest row and as high as there are rows, its sets are the cells of their
-- characters, and the player is in the one cell with a player's character
pub record Draws (rows : List (List ℕ)) (level : Level) : Type 0 where
  pub shape : level.shape ≡ record { width = width_of rows; height = length rows }
  pub walls : Shows (codes "#") rows level.walls
  pub goals : Shows (codes ".*+") rows level.goals
  pub boxes : Shows (codes "$*") rows level.boxes
  pub player : (c : Cell) → (is_one_of (codes "@+") (character_at rows c) ≡ true) ↔ (c ≡ level.player)
