-- The zones that are made, and for which levels.
--     first k boxes   the boxes of the start that come first in reading order, k of them
--     crowded         a closed set of cells that violates Hall's condition: it holds more of some boxes than goals
--     least zone      for the least k such that some set is crowded by the first k boxes: the set that is crowded by them
--                     and lies within every other such set
-- No matching of boxes to goals occurs in these definitions, so what is made depends on the level alone. A level has at most one least zone.
use Rattle.std.specs.Prelude.{◌≡◌, ℕ, ◌<◌}
use Rattle.std.specs.FinSet as set
use Rattle.cellset.specs.Cell.{Before}
use Rattle.cellset.specs.CellSet.{Cells, Has}
use Rattle.cellset.specs.declared.cell.Cell.{Cell}
use Rattle.board.specs.Game.{Level}
use Rattle.board.specs.Board.{IsWellFormed}
use Rattle.certificates.specs.Zone.{count_in, IsClosedZone, IsRefuting}

-- the set has k boxes of the start, and with each of them every box that comes before it
pub record AreFirstBoxes (level : Level) (k : ℕ) (first : Cells) : Type 0 where
  pub boxes : (c : Cell) → Has first c → Has level.boxes c
  pub earlier : (c b : Cell) → Has first c → Has level.boxes b → Before b c → Has first b
  pub count : set.len first ≡ k

-- the zone is closed and holds more of these boxes than goals
pub record IsCrowded (level : Level) (boxes zone : Cells) : Type 0 where
  pub closed : IsClosedZone level zone
  pub more : count_in zone level.goals < count_in zone boxes

-- the zone is closed and holds more of the first k boxes than goals
abbrev pub IsCrowdedByFirst : Level → ℕ → Cells → Type 0
IsCrowdedByFirst level k zone = (first : Cells) × AreFirstBoxes level k first × IsCrowded level first zone

-- some closed set refutes the level
abbrev pub SomeZoneRefutes : Level → Type 0
SomeZoneRefutes level = (zone : Cells) × IsCrowded level level.boxes zone

-- the zone is the least one that is crowded by the first k boxes, for the least k with such a zone
pub record IsLeastZone (level : Level) (zone : Cells) : Type 0 where
  pub k : ℕ
  pub crowded : IsCrowdedByFirst level k zone
  pub none_before : (j : ℕ) (other : Cells) → j < k → IsCrowdedByFirst level j other → ⊥
  pub within : (other : Cells) (c : Cell) → IsCrowdedByFirst level k other → Has zone c → Has other c

-- ---- laws
-- a level has at most one least zone
abbrev pub LeastZonesAreOne : Type 0
LeastZonesAreOne = (level : Level) (zone other : Cells) → IsLeastZone level zone → IsLeastZone level other → zone ≡ other

-- the least zone is lawful and refutes the level
abbrev pub LeastZonesRefute : Type 0
LeastZonesRefute = (level : Level) (zone : Cells) → IsWellFormed level → IsLeastZone level zone → IsRefuting level zone
