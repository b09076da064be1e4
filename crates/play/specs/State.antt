-- States on a board, and what one step does to them.
--   state on a grid    the cells of the player and the boxes, and their grid
--   wall               a cell of the walls, or one off the grid
--   wall ahead         no step is possible, because the next cell is a wall
--   blocked            no step is possible, because the next cell has a box, and the cell after it is a wall or has a box
use Rattle.std.specs.Prelude.{◌≡◌, ◌⊎◌, ℕ, refl}
use Rattle.std.specs.Coded.{Coded, code_by, coded×, coded_ℕ}
use Rattle.cellset.specs.Shape.{Extent}
use Rattle.cellset.specs.Cell.{neighbor}
use Rattle.cellset.specs.Coding.{coded_cell, coded_cells}
use Rattle.cellset.specs.CellSet.{Cells, Has}
use Rattle.cellset.specs.declared.cell.Cell.{Cell}
use Rattle.cellset.specs.declared.dir.Dir.{Dir}
use Rattle.board.specs.Game.{Level, State, IsFloor, Steps, Walks, Pushes}
use Rattle.play.specs.declared.state.Moved.{Moved}
use Rattle.play.specs.declared.state.Moved.TheVariants.{Walk, Push}

-- the cells of the player and the boxes, on a grid
pub record StateOn : Type 0 where
  pub extent : Extent
  pub state : State

-- a state on a grid is data
abbrev pub coded_state_on : Coded StateOn
coded_state_on =
    code_by ((ℕ × ℕ) × (Cell × Cells)) (coded× (coded× coded_ℕ coded_ℕ) (coded× coded_cell coded_cells))
    (λ s. ((s.extent.width, s.extent.height), (s.state.player, s.state.boxes)))
    (λ p. record { extent = record { width = p.0.0; height = p.0.1 }; state = record { player = p.1.0; boxes = p.1.1 } })
    (λ _. refl)

-- the cell is a wall: everything but floor
abbrev pub IsWall : Level → Cell → Type 0
IsWall level c = IsFloor level c → ⊥

-- the step by d from s to t moves the player alone, or the player and a box
abbrev pub Moves : Level → State → Dir → State → Moved → Type 0
Moves level s d t Walk = Walks level s d t
Moves level s d t (Push from to) = Pushes level s d t × (from ≡ neighbor s.player d) × (to ≡ neighbor from d)

-- no step by d is possible, and the next cell is a wall
pub record IsWallAhead (level : Level) (s : State) (d : Dir) : Type 0 where
  pub stuck : (t : State) → Steps level s d t → ⊥
  pub wall : IsWall level (neighbor s.player d)

-- the next cell is no wall and has a box, and the cell after it is a wall or has a box
pub record IsBlocked (level : Level) (s : State) (d : Dir) : Type 0 where
  pub floor : IsFloor level (neighbor s.player d)
  pub box : Has s.boxes (neighbor s.player d)
  pub behind : IsWall level (neighbor (neighbor s.player d) d) ⊎ Has s.boxes (neighbor (neighbor s.player d) d)
