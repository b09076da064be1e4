-- Zones, and what they mean.
--   zone            a set of cells
--   lawful          every cell is on the board and no wall
--   leak            a push of a box on a cell of the zone onto floor outside the zone, where the cell behind the box is in
--                   the room; other boxes are disregarded
--   closed          there is no leak
--   refuting        lawful and closed, with more boxes of the start than goals in it
-- A level that a zone refutes isn't solvable: the zone never loses a box, and in a solved state each box in the zone is on a
-- goal of its own in the zone.
use Rattle.std.specs.Prelude.{ℕ, ◌<◌}
use Rattle.std.specs.FinSet as set
use Rattle.cellset.specs.{Cell.IsOn, Cell.neighbor, Cell.opposite, CellSet.Cells, CellSet.Has, CellSet.Lacks, declared.cell.Cell.Cell, declared.dir.Dir.Dir}
use Rattle.board.specs.{Game.Level, Game.IsFloor, Game.Solvable, Board.IsWellFormed}

-- the number of cells of a set in the zone
abbrev pub count_in : Cells → Cells → ℕ
count_in zone cells = set.len (set.intersection zone cells)

-- a push in direction d of a box on cell x of the zone onto floor outside the zone, where the cell behind the box is in the room
pub record Leaks (level : Level) (zone : Cells) (x : Cell) (d : Dir) : Type 0 where
  pub inside : Has zone x
  pub behind : Has level.room (neighbor x (opposite d))
  pub ahead : IsFloor level (neighbor x d)
  pub outside : Lacks zone (neighbor x d)

-- no box is pushed out of the zone
abbrev pub IsClosedZone : Level → Cells → Type 0
IsClosedZone level zone = (x : Cell) (d : Dir) → Leaks level zone x d → ⊥

-- every cell is on the board
abbrev pub IsZoneOnBoard : Level → Cells → Type 0
IsZoneOnBoard level zone = (c : Cell) → Has zone c → IsOn level.shape c

-- no cell is on a wall
abbrev pub IsZoneOffWalls : Level → Cells → Type 0
IsZoneOffWalls level zone = (c : Cell) → Has zone c → Lacks level.walls c

-- a lawful zone that is closed and has more boxes of the start than goals
pub record IsRefuting (level : Level) (zone : Cells) : Type 0 where
  pub board : IsZoneOnBoard level zone
  pub wall : IsZoneOffWalls level zone
  pub closed : IsClosedZone level zone
  pub more : count_in zone level.goals < count_in zone level.boxes

-- no list of directions, of any length, solves a level that a zone refutes
abbrev pub RefutingMeansUnsolvable : Type 0
RefutingMeansUnsolvable = (level : Level) (zone : Cells) → IsWellFormed level → IsRefuting level zone → Solvable level → ⊥
