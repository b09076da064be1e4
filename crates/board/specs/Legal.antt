-- Which levels are legal, and why a level is refused.
use Rattle.std.specs.Prelude.{◌≡◌, ◌↔◌, ℕ, ◌<◌, ◌≤◌, Bool, List, length}
use Rattle.std.specs.List.{sum_by, count_by}
use Rattle.cellset.specs.Shape.{largest_side}
use Rattle.cellset.specs.CellSet.{Has}
use Rattle.cellset.specs.declared.cell.Cell.{Cell}
use Rattle.reach.specs.Region.{Joined, IsAtEdge}
use Rattle.board.specs.Game.{Level, IsFloor}
use Rattle.board.specs.Characters.{is_player, is_box, is_goal}
use Rattle.board.specs.Rows.{Draws, width_of}
use Rattle.board.specs.declared.reading.BoardFault.{BoardFault}
use Rattle.board.specs.declared.reading.BoardFault.TheVariants.{Size, Player, Box, Goals, Open, Memory}

-- neither side is above the largest of a grid
abbrev pub FitsGrid : List (List ℕ) → Type 0
FitsGrid rows = (width_of rows ≤ largest_side) × (length rows ≤ largest_side)

-- how many characters of the rows are of the kind
abbrev pub count_of_kind : (ℕ → Bool) → List (List ℕ) → ℕ
count_of_kind is_kind rows = sum_by (count_by is_kind) rows

-- there is exactly one player
abbrev pub HasOnePlayer : List (List ℕ) → Type 0
HasOnePlayer rows = count_of_kind is_player rows ≡ 1

-- there is a box
abbrev pub HasBox : List (List ℕ) → Type 0
HasBox rows = 0 < count_of_kind is_box rows

-- there are no more boxes than goals
abbrev pub HasEnoughGoals : List (List ℕ) → Type 0
HasEnoughGoals rows = count_of_kind is_box rows ≤ count_of_kind is_goal rows

-- the level is the one that the rows draw, and its room is all cells that a chain of neighbours outside the walls joins to the
-- player, with or without boxes on them
pub record ArePartsOf (rows : List (List ℕ)) (level : Level) : Type 0 where
  pub drawn : Draws rows level
  pub room : (c : Cell) → Has level.room c ↔ Joined (IsFloor level) (λ seed. seed ≡ level.player) c

-- the room reaches the edge of the grid
abbrev pub IsOpen : Level → Type 0
IsOpen level = (c : Cell) × Has level.room c × IsAtEdge level.shape c

-- the level is the board of these rows, and legal
pub record IsBoardOf (rows : List (List ℕ)) (level : Level) : Type 0 where
  pub size : FitsGrid rows
  pub player : HasOnePlayer rows
  pub box : HasBox rows
  pub goals : HasEnoughGoals rows
  pub parts : ArePartsOf rows level
  pub closed : ¬ IsOpen level

-- the first thing that the rows lack, in the order of the faults; running out of memory is no fault of theirs
abbrev pub IsRefusal : List (List ℕ) → BoardFault → Type 0
IsRefusal rows Size = ¬ FitsGrid rows
IsRefusal rows Player = FitsGrid rows × ¬ HasOnePlayer rows
IsRefusal rows Box = FitsGrid rows × HasOnePlayer rows × ¬ HasBox rows
IsRefusal rows Goals = FitsGrid rows × HasOnePlayer rows × HasBox rows × ¬ HasEnoughGoals rows
IsRefusal rows Open = FitsGrid rows × HasOnePlayer rows × HasBox rows × HasEnoughGoals rows × ((level : Level) × ArePartsOf rows level × IsOpen level)
IsRefusal rows Memory = ⊥
