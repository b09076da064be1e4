-- What a level's rows are once their parts, their one player and their room are there.
-- The parts have one cell for each character of a kind, so the sizes of the sets are the counts of the characters, and tests of the
-- sizes are tests of legality. If the sides are no grid's, one is above the largest, since a level has a row, and each row a wall.
-- Once the board has its parts, the level is legal unless its room is open.
use Rattle.std.proofs.Common.{◌≡◌, ◌≢◌, ℕ, ◌≤◌, List, length, sym, ◌∙◌, arith}
use Rattle.std.specs.FinSet as set
use Rattle.cellset.specs.Shape.{Extent, HasSides}
use Rattle.cellset.specs.CellSet.{Cells, only}
use Rattle.cellset.specs.declared.cell.Cell.{Cell}
use Rattle.board.specs.Board.{IsWellFormed, level_of}
use Rattle.board.specs.Levels.{IsRun}
use Rattle.board.specs.Characters.{is_wall, is_player, is_box, is_goal}
use Rattle.board.specs.Rows.{width_of}
use Rattle.board.specs.Legal.{FitsGrid, HasOnePlayer, HasBox, HasEnoughGoals, ArePartsOf}
use Rattle.board.specs.Parts.{IsDrawn, IsLegalUnlessOpen, extent_of}
use Rattle.board.proofs.DrawnParts.{IsWalked, parts, formed, run_sides}

-- the sets are drawn from the rows and pass all tests but the last, and walks from the player reach the room
pub record PassesTests (rows : List (List ℕ)) (shape : Extent) (walls goals boxes players room : Cells) (player : Cell) : Type 0 where
  pub sides : HasSides shape.width shape.height
  pub shape_is : shape ≡ extent_of rows
  pub walls_drawn : IsDrawn is_wall rows walls
  pub goals_drawn : IsDrawn is_goal rows goals
  pub boxes_drawn : IsDrawn is_box rows boxes
  pub players_drawn : IsDrawn is_player rows players
  pub one : set.len players ≡ 1
  pub is_player : players ≡ only player
  pub some : set.len boxes ≢ 0
  pub enough : set.len boxes ≤ set.len goals
  pub walked : IsWalked (level_of shape walls goals boxes player room)

-- if no grid has the sides of a run, the run doesn't fit a grid
pub too_large : (rows : List (List ℕ)) (width height : ℕ) → IsRun rows → width ≡ width_of rows → height ≡ length rows → (HasSides width height → ⊥)
    → FitsGrid rows → ⊥
too_large rows width height run wide high none fits = grind (arith, run_sides)

module _ (rows : List (List ℕ)) (shape : Extent) (walls goals boxes players room : Cells) (player : Cell)
    (r : PassesTests rows shape walls goals boxes players room player) where
  fits : FitsGrid rows
  fits = grind arith

  one_player : HasOnePlayer rows
  one_player = sym r.players_drawn.count ∙ r.one

  has_box : HasBox rows
  has_box = grind arith

  enough_goals : HasEnoughGoals rows
  enough_goals = grind arith

  parts_of : ArePartsOf rows (level_of shape walls goals boxes player room)
  parts_of = search (parts)

  pub formed_of : IsWellFormed (level_of shape walls goals boxes player room)
  formed_of = search (formed, parts_of)

  pub legal_of : IsLegalUnlessOpen rows (level_of shape walls goals boxes player room)
  legal_of = search (fits, one_player, has_box, enough_goals, parts_of)
