-- Matchings of boxes and goals, and the zone that a search for an augmenting path leaves if there is none.
--     reach           of a box: the least closed set that holds the box, which is the intersection of all closed sets that hold it
--     matching        each of some boxes is paired with one goal in its reach, and no goal is paired with two boxes
--     confined paths  no alternating path from a box leaves a set that is closed, holds the box, and holds the box paired with each
--                     of its goals
--     Hall violator   the least set that confines the paths from a box, if each of its goals is paired: it has one box more than
--                     goals, so no augmenting path begins at the box
use Rattle.std.specs.Prelude.{◌≡◌}
use Rattle.cellset.specs.CellSet.{Cells, Has}
use Rattle.cellset.specs.declared.cell.Cell.{Cell}
use Rattle.board.specs.Game.{Level, IsFloor}
use Rattle.certificates.specs.Zone.{IsClosedZone}

-- cell c is in the reach of a box at b: every closed set that holds b holds c
abbrev pub InReach : Level → Cell → Cell → Type 0
InReach level b c = (zone : Cells) → IsClosedZone level zone → Has zone b → Has zone c

-- the pairs are a matching of these boxes, where `Pairs g b` says that goal g is paired with box b
pub record IsMatching (level : Level) (matched : Cells) (Pairs : Cell → Cell → Type 0) : Type 0 where
  pub goal : (g b : Cell) → Pairs g b → Has level.goals g
  pub box : (g b : Cell) → Pairs g b → Has matched b
  pub reach : (g b : Cell) → Pairs g b → InReach level b g
  pub one_box : (g b c : Cell) → Pairs g b → Pairs g c → b ≡ c
  pub one_goal : (g h b : Cell) → Pairs g b → Pairs h b → g ≡ h
  pub each : (b : Cell) → Has matched b → (g : Cell) × Pairs g b

-- no alternating path from the box `start` leaves the zone
pub record ConfinesPaths (level : Level) (Pairs : Cell → Cell → Type 0) (start : Cell) (zone : Cells) : Type 0 where
  pub closed : IsClosedZone level zone
  pub begins : Has zone start
  pub boxes : (g b : Cell) → Has zone g → Pairs g b → Has zone b

-- the zone is the least one that confines the paths from the box `start`, and each of its goals is paired
pub record IsHallViolator (level : Level) (Pairs : Cell → Cell → Type 0) (start : Cell) (zone : Cells) : Type 0 where
  pub confines : ConfinesPaths level Pairs start zone
  pub paired : (g : Cell) → Has zone g → Has level.goals g → (b : Cell) × Pairs g b
  pub floor : (c : Cell) → Has zone c → IsFloor level c
  pub least : (other : Cells) (c : Cell) → ConfinesPaths level Pairs start other → Has zone c → Has other c
