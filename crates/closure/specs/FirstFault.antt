-- The first fault of a list of patterns, and of a zone.
--   unlawful        the first reason that holds: a box or listed seed is off the board, a box is on a wall, a listed seed
--                   is outside the room or on a box, no box is off the goals
--   first line      it has the fault, and the lines before it don't
--   first push      the order is the reading order of the player's cell, then left, up, right, down
-- An unlawful line comes before a start that isn't covered, and the start before a push out whose result isn't covered.
-- An unlawful zone comes before a leak, and a leak before a zone with no more boxes than goals. The first leak is the first
-- by its cell in reading order, and then by direction.
use Rattle.std.specs.{Prelude.◌≡◌, Prelude.ℕ, Prelude.◌<◌, Prelude.◌≤◌, Prelude.◌⊎◌, Prelude.List, Prelude.◌∷◌, Prelude.◌++◌, List.Contains}
use Rattle.cellset.specs.{Cell.IsOn, Cell.Before, CellSet.Cells, CellSet.Has, CellSet.Lacks, declared.cell.Cell.Cell, declared.dir.Dir.Dir}
use Rattle.reach.specs.{Pushes.dir_rank, declared.pushes.Push.Push as PushOut}
use Rattle.board.specs.Game.{Level, start}
use Rattle.answers.specs.Body.{PatternLine, ZoneLine}
use Rattle.certificates.specs.CellLists.{cells_of}
use Rattle.closure.specs.declared.fault.LineWhy.{LineWhy, TheVariants.Board, TheVariants.Wall, TheVariants.Seed, TheVariants.Goals}
use Rattle.closure.specs.declared.fault.CheckFault.{CheckFault, TheVariants.Line, TheVariants.Start, TheVariants.Push, TheVariants.Memory}
use Rattle.closure.specs.declared.fault.{ZoneLineWhy.ZoneLineWhy, ZoneFault.ZoneFault}
use Rattle.closure.specs.declared.fault.ZoneLineWhy.TheVariants as zone_why
use Rattle.closure.specs.declared.fault.ZoneFault.TheVariants as zone_fault
use Rattle.certificates.specs.Pattern.{Pattern, pattern_of, patterns_of, IsCovered, IsFirstUncovered}
use Rattle.certificates.specs.Zone.{count_in, Leaks, IsClosedZone, IsZoneOnBoard, IsZoneOffWalls, IsRefuting}
use Rattle.certificates.specs.Pattern.{IsListedSeed, IsOnBoard, IsOffWalls, HasFairSeeds, IsLawful, AreLawful, CoversPushesOf}
use Rattle.certificates.specs.Closed.{Closed}

-- the pattern isn't lawful, and this is the first reason
abbrev pub IsUnlawful : Level → Pattern → LineWhy → Type 0
IsUnlawful level p Board = (c : Cell) × (Has p.boxes c ⊎ IsListedSeed p.seeds c) × (IsOn level.shape c → ⊥)
IsUnlawful level p Wall = IsOnBoard level p × (c : Cell) × Has p.boxes c × Has level.walls c
IsUnlawful level p Seed = IsOnBoard level p × IsOffWalls level p × (c : Cell) × IsListedSeed p.seeds c × (Lacks level.room c ⊎ Has p.boxes c)
IsUnlawful level p Goals = IsOnBoard level p × IsOffWalls level p × HasFairSeeds level p × ((c : Cell) → Has p.boxes c → Has level.goals c)

-- the line of this number has the fault, and the lines before it are fine
pub record IsFirstFaultyLine (IsFine IsFaulty : PatternLine → Type 0) (lines : List PatternLine) (number : ℕ) : Type 0 where
  pub before : List PatternLine
  pub line : PatternLine
  pub after : List PatternLine
  pub list : lines ≡ before ++ line ∷ after
  pub number_is : line.line ≡ number
  pub fine : (earlier : PatternLine) → Contains before earlier → IsFine earlier
  pub faulty : IsFaulty line

-- the first push out of the pattern whose result isn't covered is the one by the player on this cell in this direction
abbrev pub HasFirstUncovered : Level → List Pattern → Pattern → Cell → Dir → Type 0
HasFirstUncovered level patterns pattern player dir = (push : PushOut) × (push.player ≡ player) × (push.dir ≡ dir) × IsFirstUncovered level patterns pattern push

-- the first fault of a list of patterns
abbrev pub IsFirstPatternFault : Level → List PatternLine → CheckFault → Type 0
IsFirstPatternFault level lines (Line number why) =
    IsFirstFaultyLine (λ l. IsLawful level (pattern_of l)) (λ l. IsUnlawful level (pattern_of l) why) lines number
IsFirstPatternFault level lines Start = AreLawful level (patterns_of lines) × (IsCovered level (patterns_of lines) (start level) → ⊥)
IsFirstPatternFault level lines (Push number player dir) =
    AreLawful level (patterns_of lines)
    × IsCovered level (patterns_of lines) (start level)
    × IsFirstFaultyLine (λ l. CoversPushesOf level (patterns_of lines) (pattern_of l)) (λ l. HasFirstUncovered level (patterns_of lines) (pattern_of l) player dir) lines number
IsFirstPatternFault level lines Memory = ⊥

-- ---- zones
-- the zone isn't lawful, and this is the first reason
abbrev pub IsUnlawfulZone : Level → Cells → ZoneLineWhy → Type 0
IsUnlawfulZone level zone zone_why.Board = (c : Cell) × Has zone c × (IsOn level.shape c → ⊥)
IsUnlawfulZone level zone zone_why.Wall = IsZoneOnBoard level zone × (c : Cell) × Has zone c × Has level.walls c

-- cell x with direction d comes before cell y with direction e
abbrev pub ComesBefore : Cell → Dir → Cell → Dir → Type 0
ComesBefore x d y e = Before x y ⊎ ((x ≡ y) × (dir_rank d < dir_rank e))

-- the first leak of the zone
pub record IsFirstLeak (level : Level) (zone : Cells) (x : Cell) (d : Dir) : Type 0 where
  pub leaks : Leaks level zone x d
  pub first : (y : Cell) (e : Dir) → Leaks level zone y e → ComesBefore y e x d → ⊥

-- the first fault of a zone
abbrev pub IsFirstZoneFault : Level → ZoneLine → ZoneFault → Type 0
IsFirstZoneFault level line (zone_fault.Line number why) = (line.line ≡ number) × IsUnlawfulZone level (cells_of line.cells) why
IsFirstZoneFault level line (zone_fault.Leak number x d) =
    (line.line ≡ number) × IsZoneOnBoard level (cells_of line.cells) × IsZoneOffWalls level (cells_of line.cells) × IsFirstLeak level (cells_of line.cells) x d
IsFirstZoneFault level line (zone_fault.Fits number) =
    let zone = cells_of line.cells in
    (line.line ≡ number) × IsZoneOnBoard level zone × IsZoneOffWalls level zone × IsClosedZone level zone × (count_in zone level.boxes ≤ count_in zone level.goals)
IsFirstZoneFault level line zone_fault.Memory = ⊥

-- ---- laws
-- a closed list has no first fault
abbrev pub ClosedHasNoFault : Type 0
ClosedHasNoFault = (level : Level) (lines : List PatternLine) (fault : CheckFault) → Closed level (patterns_of lines) → IsFirstPatternFault level lines fault → ⊥

-- a zone that refutes a level has no first fault
abbrev pub RefutingHasNoFault : Type 0
RefutingHasNoFault = (level : Level) (line : ZoneLine) (fault : ZoneFault) → IsRefuting level (cells_of line.cells) → IsFirstZoneFault level line fault → ⊥
