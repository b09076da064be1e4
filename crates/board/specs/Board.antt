-- Boards: what holds of a level that was read, and how it is stored.
use Rattle.std.specs.Prelude.{◌≡◌, ℕ, refl}
use Rattle.std.specs.Coded.{Coded, code_by, coded×, coded_ℕ}
use Rattle.cellset.specs.Shape.{Extent, HasSides}
use Rattle.cellset.specs.Cell.{neighbor}
use Rattle.cellset.specs.Coding.{coded_cell, coded_cells}
use Rattle.cellset.specs.CellSet.{Cells, Has, Lacks}
use Rattle.cellset.specs.declared.cell.Cell.{Cell}
use Rattle.cellset.specs.declared.dir.Dir.{Dir}
use Rattle.reach.specs.Region.{Joined}
use Rattle.board.specs.Game.{Level, IsFloor}

-- a grid has these sides; the player and the boxes are on floor, no box is on the player's cell; the room is floor, holds the player,
-- has every floor cell beside one of its cells, and is joined: a chain of floor cells leads from the player to each of its cells
pub record IsWellFormed (level : Level) : Type 0 where
  pub sides : HasSides level.shape.width level.shape.height
  pub boxes : (c : Cell) → Has level.boxes c → IsFloor level c
  pub player : IsFloor level level.player
  pub apart : Lacks level.boxes level.player
  pub room : (c : Cell) → Has level.room c → IsFloor level c
  pub here : Has level.room level.player
  pub goes_on : (c : Cell) (d : Dir) → Has level.room c → IsFloor level (neighbor c d) → Has level.room (neighbor c d)
  pub joined : (c : Cell) → Has level.room c → Joined (IsFloor level) (λ seed. seed ≡ level.player) c

-- the level of these parts
abbrev pub level_of : Extent → Cells → Cells → Cells → Cell → Cells → Level
level_of shape walls goals boxes player room = record { shape = shape; walls = walls; goals = goals; boxes = boxes; player = player; room = room }

-- a level is data
abbrev pub coded_level : Coded Level
coded_level =
    code_by ((ℕ × ℕ) × ((Cells × Cells) × ((Cells × Cells) × Cell)))
    (coded× (coded× coded_ℕ coded_ℕ) (coded× (coded× coded_cells coded_cells) (coded× (coded× coded_cells coded_cells) coded_cell)))
    (λ l. ((l.shape.width, l.shape.height), ((l.walls, l.goals), ((l.boxes, l.room), l.player))))
    (λ p. record { shape = record { width = p.0.0; height = p.0.1 }; walls = p.1.0.0; goals = p.1.0.1; boxes = p.1.1.0.0; room = p.1.1.0.1; player = p.1.1.1 })
    (λ _. refl)
