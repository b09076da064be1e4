-- Patterns, the states that they cover, and which patterns may be in a list.
--   pattern             a set of boxes, with seeds of the cells where the player may be
--   seeds               some cells, or `*`, which means the room less the boxes
--   region              the cells that a chain of neighbours joins to a seed; each cell of the chain, first and last too, is
--                       on the board and neither a wall nor a box of the pattern; other boxes are disregarded
--   covers              the state has every box of the pattern, and its player is in the region
--   push out            the player in the region pushes a box of the pattern to a cell that is neither a wall nor a
--                       box of the pattern; other boxes are disregarded
--   its result          the player on the box's old cell, and the pattern's boxes with that box moved
--   lawful              every box and every listed seed is on the board; no box is on a wall; every listed seed is in the
--                       room and not on a box of the pattern; some box is off the goals
use Rattle.std.specs.{Prelude.◌⊎◌, Prelude.List, Prelude.Option, Prelude.None, Prelude.Some, Prelude.map, List.Contains}
use Rattle.std.specs.FinSet as set
use Rattle.cellset.specs.{Cell.IsOn, CellSet.Cells, CellSet.Has, CellSet.Lacks, declared.cell.Cell.Cell}
use Rattle.reach.specs.{Region.InRegion, Pushes.IsPushOut, Pushes.PushBefore, declared.pushes.Push.Push}
use Rattle.board.specs.Game.{Level, State, moved}
use Rattle.answers.specs.{declared.pattern.Coord.Coord, Body.PatternLine}
use Rattle.certificates.specs.CellLists.{cells_of}

-- where the region of a pattern begins
pub data Seeds : Type 0 where
  whole_room : Seeds
  listed : Cells → Seeds

-- boxes, and seeds of the cells where the player may be
pub record Pattern : Type 0 where
  pub boxes : Cells
  pub seeds : Seeds

-- the pattern of a line; if the line lists no seeds, it says `*`
abbrev pub seeds_of : Option (List Coord) → Seeds
seeds_of None = whole_room
seeds_of (Some coords) = listed (cells_of coords)

abbrev pub pattern_of : PatternLine → Pattern
pattern_of line = record { boxes = cells_of line.boxes; seeds = seeds_of line.seeds }

abbrev pub patterns_of : List PatternLine → List Pattern
patterns_of lines = map pattern_of lines

-- the seeds as a set of cells
abbrev pub seed_cells : Level → Cells → Seeds → Cells
seed_cells level boxes whole_room = set.difference level.room boxes
seed_cells level boxes (listed cells) = cells

-- a cell of the region
abbrev pub InPatternRegion : Level → Pattern → Cell → Type 0
InPatternRegion level pattern = InRegion level.shape level.walls pattern.boxes (seed_cells level pattern.boxes pattern.seeds)

-- the state has every box of the pattern, and its player is in the region
pub record Covers (level : Level) (pattern : Pattern) (s : State) : Type 0 where
  pub boxes : (c : Cell) → Has pattern.boxes c → Has s.boxes c
  pub player : InPatternRegion level pattern s.player

-- some pattern of the list covers the state
abbrev pub IsCovered : Level → List Pattern → State → Type 0
IsCovered level patterns s = (pattern : Pattern) × Contains patterns pattern × Covers level pattern s

-- a push out of the pattern
abbrev pub PushesOut : Level → Pattern → Push → Type 0
PushesOut level pattern = IsPushOut level.shape level.walls pattern.boxes (InPatternRegion level pattern)

-- the state after a push out of the pattern
abbrev pub after_push : Pattern → Push → State
after_push pattern push = record { player = push.from; boxes = moved pattern.boxes push.from push.to }

-- a listed seed
abbrev pub IsListedSeed : Seeds → Cell → Type 0
IsListedSeed whole_room c = ⊥
IsListedSeed (listed cells) c = Has cells c

-- every box and every listed seed is on the board
abbrev pub IsOnBoard : Level → Pattern → Type 0
IsOnBoard level pattern = (c : Cell) → Has pattern.boxes c ⊎ IsListedSeed pattern.seeds c → IsOn level.shape c

-- no box is on a wall
abbrev pub IsOffWalls : Level → Pattern → Type 0
IsOffWalls level pattern = (c : Cell) → Has pattern.boxes c → Lacks level.walls c

-- every listed seed is in the room and not on a box of the pattern
abbrev pub HasFairSeeds : Level → Pattern → Type 0
HasFairSeeds level pattern = (c : Cell) → IsListedSeed pattern.seeds c → Has level.room c × Lacks pattern.boxes c

-- the pattern may be in a list for this level
pub record IsLawful (level : Level) (pattern : Pattern) : Type 0 where
  pub board : IsOnBoard level pattern
  pub wall : IsOffWalls level pattern
  pub seed : HasFairSeeds level pattern
  pub goals : (c : Cell) × Has pattern.boxes c × Lacks level.goals c

-- every pattern is lawful
abbrev pub AreLawful : Level → List Pattern → Type 0
AreLawful level patterns = (pattern : Pattern) → Contains patterns pattern → IsLawful level pattern

-- the list covers the result of every push out of the pattern
abbrev pub CoversPushesOf : Level → List Pattern → Pattern → Type 0
CoversPushesOf level patterns pattern = (push : Push) → PushesOut level pattern push → IsCovered level patterns (after_push pattern push)

-- the first push out of the pattern whose result isn't covered
pub record IsFirstUncovered (level : Level) (patterns : List Pattern) (pattern : Pattern) (push : Push) : Type 0 where
  pub out : PushesOut level pattern push
  pub uncovered : IsCovered level patterns (after_push pattern push) → ⊥
  pub first : (earlier : Push) → PushesOut level pattern earlier → PushBefore earlier push → IsCovered level patterns (after_push pattern earlier)
