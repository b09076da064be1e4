-- The game, and all of it.
--   cell        a place on the grid, by its row and its column, both from 1
--   wall        a cell of the level's walls, and every cell off the grid
--   floor       a cell of the grid that is no wall; goals, boxes and the player are on floor
--   state       the cells of the player and of the boxes
--   walk        a step onto floor without a box
--   push        a step onto a box, which moves on by one cell to floor without a box
--   step        a walk or a push, by one cell to the left, up, right or down; there is no other
--   play        a list of directions, each of them a step from the state that the one before left
--   solved      every box is on a goal
--   solvable    some play, however long, leads from the start to a solved state
-- Boxes are never pulled, and no two are pushed at once. There may be more goals than boxes.
use Rattle.std.specs.Prelude.{◌≡◌, ◌⊎◌, List, [], ◌∷◌}
use Rattle.std.specs.FinSet as set
use Rattle.cellset.specs.Shape.{Extent}
use Rattle.cellset.specs.Cell.{IsOn, neighbor}
use Rattle.cellset.specs.CellSet.{Cells, Has, Lacks}
use Rattle.cellset.specs.declared.cell.Cell.{Cell}
use Rattle.cellset.specs.declared.dir.Dir.{Dir}

-- a level: the cells of each kind as it begins, and its room, which no rule of the game reads
pub record Level : Type 0 where
  pub shape : Extent
  pub walls : Cells
  pub goals : Cells
  pub boxes : Cells
  pub player : Cell
  pub room : Cells

-- the cells of the player and of the boxes
pub record State : Type 0 where
  pub player : Cell
  pub boxes : Cells

-- a cell of the grid that is no wall
abbrev pub IsFloor : Level → Cell → Type 0
IsFloor level c = IsOn level.shape c × Lacks level.walls c

-- the boxes after one of them moved
abbrev pub moved : Cells → Cell → Cell → Cells
moved boxes from to = set.insert (set.remove boxes from) to

-- the player steps onto floor without a box
abbrev pub Walks : Level → State → Dir → State → Type 0
Walks level s d t =
    let ahead = neighbor s.player d in
    IsFloor level ahead × Lacks s.boxes ahead × (t ≡ record { player = ahead; boxes = s.boxes })

-- the player steps onto a box, which moves on to floor without a box
abbrev pub Pushes : Level → State → Dir → State → Type 0
Pushes level s d t =
    let ahead = neighbor s.player d in
    let beyond = neighbor ahead d in
    Has s.boxes ahead × IsFloor level beyond × Lacks s.boxes beyond × (t ≡ record { player = ahead; boxes = moved s.boxes ahead beyond })

-- one step leads from s to t
abbrev pub Steps : Level → State → Dir → State → Type 0
Steps level s d t = Walks level s d t ⊎ Pushes level s d t

-- a list of directions leads from s to t, step by step
abbrev pub Plays : Level → State → List Dir → State → Type 0
Plays level s [] t = s ≡ t
Plays level s (d ∷ ds) t = (u : State) × Steps level s d u × Plays level u ds t

-- the state in which a level begins
abbrev pub start : Level → State
start level = record { player = level.player; boxes = level.boxes }

-- every box is on a goal
abbrev pub IsSolved : Level → State → Type 0
IsSolved level s = (c : Cell) → Has s.boxes c → Has level.goals c

-- some list of directions, of any length, leads from the start to a solved state
abbrev pub Solvable : Level → Type 0
Solvable level = (ds : List Dir) × (t : State) × Plays level (start level) ds t × IsSolved level t
