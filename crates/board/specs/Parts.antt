-- The parts of a board, as its rows are read.
use Rattle.std.specs.Prelude.{◌≡◌, ◌≢◌, ◌↔◌, ℕ, ◌+◌, ◌*◌, ◌<◌, ◌≤◌, Bool, false, List, length}
use Rattle.std.specs.FinSet.{contains, len}
use Rattle.cellset.specs.Shape.{Extent}
use Rattle.cellset.specs.Cell.{IsOn}
use Rattle.cellset.specs.CellSet.{Cells, Has, Lacks}
use Rattle.cellset.specs.declared.cell.Cell.{Cell}
use Rattle.cellset.specs.Bits.{bit}
use Rattle.board.specs.Characters.{is_wall, is_player, is_box, is_goal, space}
use Rattle.board.specs.Rows.{nth, character_at, width_of}
use Rattle.board.specs.Board.{level_of}
use Rattle.board.specs.Game.{Level}
use Rattle.board.specs.Legal.{count_of_kind, ArePartsOf, FitsGrid, HasBox, HasEnoughGoals, HasOnePlayer}
use Rattle.board.specs.declared.row.Kinds.{Kinds}
use Rattle.board.specs.declared.parts.Parts.{Parts}

-- the cells are those whose character is of the kind
abbrev pub ShowsKind : (ℕ → Bool) → List (List ℕ) → Cells → Type 0
ShowsKind is_kind rows cells = (c : Cell) → contains cells c ≡ is_kind (character_at rows c)

-- the cells of a kind that the rows so far show, one for each character
pub record IsDrawn (is_kind : ℕ → Bool) (rows : List (List ℕ)) (cells : Cells) : Type 0 where
  pub shows : ShowsKind is_kind rows cells
  pub count : len cells ≡ count_of_kind is_kind rows

-- which of 64 columns of a row are of the kind, as the bits of a word: bit k is column 64 * part + k
abbrev pub IsWordOf : (ℕ → Bool) → List ℕ → ℕ → ℕ → Type 0
IsWordOf is_kind line part word = (k : ℕ) → k < 64 → bit word k ≡ is_kind (nth line (64 * part + k) space)

-- the first n bits of the word say which of n bytes are of the kind, and no other bit is set
pub record IsMaskOf (is_kind : ℕ → Bool) (byte : ℕ → ℕ) (n word : ℕ) : Type 0 where
  pub inside : (k : ℕ) → k < n → bit word k ≡ is_kind (byte k)
  pub outside : (k : ℕ) → n ≤ k → k < 64 → bit word k ≡ false

-- which bytes are of each kind: up to the first line feed, or n of them
pub record AreKindsOf (byte : ℕ → ℕ) (n : ℕ) (kinds : Kinds) : Type 0 where
  pub within : kinds.count ≤ n
  pub before : (k : ℕ) → k < kinds.count → byte k ≢ 10
  pub feed : kinds.count < n → byte kinds.count ≡ 10
  pub wall : IsMaskOf is_wall byte kinds.count kinds.walls
  pub goal : IsMaskOf is_goal byte kinds.count kinds.goals
  pub box : IsMaskOf is_box byte kinds.count kinds.boxes
  pub player : IsMaskOf is_player byte kinds.count kinds.players

-- the four sets show the rows so far
pub record AreDrawn {S : Type 0} (rows : List (List ℕ)) (members : S → Cells) (s : Parts S) : Type 0 where
  pub wall : IsDrawn is_wall rows (members s.walls)
  pub goal : IsDrawn is_goal rows (members s.goals)
  pub box : IsDrawn is_box rows (members s.boxes)
  pub player : IsDrawn is_player rows (members s.room)

-- all parts are on their shape, and their rows are the floor and these cells
pub record HasRows {S : Type 0} (extent : S → Extent) (members : S → Cells) (s : Parts S) (cells : Cells) : Type 0 where
  pub wall : extent s.walls ≡ s.shape
  pub goal : extent s.goals ≡ s.shape
  pub box : extent s.boxes ≡ s.shape
  pub player : extent s.room ≡ s.shape
  pub floor_extent : s.floor.extent ≡ s.shape
  pub floor : (c : Cell) → Has s.floor.members c ↔ (IsOn s.shape c × Lacks (members s.walls) c)
  pub region_extent : s.region.extent ≡ s.shape
  pub region : s.region.members ≡ cells

-- the shape of rows
abbrev pub extent_of : List (List ℕ) → Extent
extent_of rows = record { width = width_of rows; height = length rows }

-- the level of these parts once they have the room, by the player's cell
abbrev pub level_in : {S : Type 0} → (S → Cells) → Parts S → Cell → Level
level_in members s player = level_of s.shape (members s.walls) (members s.goals) (members s.boxes) player (members s.room)

-- the level is the board of these rows, and legal unless its room is open
pub record IsLegalUnlessOpen (rows : List (List ℕ)) (level : Level) : Type 0 where
  pub size : FitsGrid rows
  pub player : HasOnePlayer rows
  pub box : HasBox rows
  pub goals : HasEnoughGoals rows
  pub parts : ArePartsOf rows level
