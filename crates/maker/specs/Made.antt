-- The certificates that are made, and for which levels: lists of patterns, and zones.
--     in order        the coordinates of the cells of a set, each once, in reading order
--     made pattern    some boxes, with `*` for their seeds, on line 0 (`Canonical.antt` of `answers`)
--     dead patterns   for each dead square, in reading order, the made pattern of one box there
--     list            if a box of the start is on a dead square: the dead patterns; otherwise, if a box of the largest frozen
--                     set is off the goals: the dead patterns, and last the made pattern of all boxes of that set
--     zone            if no list is made and some closed set of cells refutes the level: the cells of the least zone, in
--                     reading order, on line 0
-- If no closed set refutes the level either, nothing is made.
use Rattle.std.specs.Prelude.{◌≡◌, ◌⊎◌, List, [], ◌∷◌, ◌++◌, map}
use Rattle.cellset.specs.CellSet.{Cells, Has, Lacks}
use Rattle.cellset.specs.declared.cell.Cell.{Cell}
use Rattle.board.specs.Game.{Level}
use Rattle.answers.specs.declared.pattern.Coord.{Coord}
use Rattle.answers.specs.declared.record.MadeBody.{MadeBody}
use Rattle.answers.specs.declared.record.MadeBody.TheVariants as body
use Rattle.answers.specs.Canonical.{list_patterns, lone_patterns, made_pattern}
use Rattle.answers.specs.Grammar.{AreInOrder, said_pattern, said_zone}
use Rattle.answers.specs.Body.{PatternLine, ZoneLine}
use Rattle.certificates.specs.CellLists.{cells_of}
use Rattle.certificates.specs.Pattern.{patterns_of}
use Rattle.certificates.specs.Closed.{Closed}
use Rattle.certificates.specs.Zone.{IsRefuting}
use Rattle.board.specs.Board.{IsWellFormed}
use Rattle.maker.specs.Dead.{IsDead, AreDead}
use Rattle.maker.specs.Frozen.{IsLargestFrozen}
use Rattle.maker.specs.Zones.{SomeZoneRefutes, IsLeastZone}
use Rattle.maker.specs.declared.making.Found.{Found}
use Rattle.maker.specs.declared.making.Found.TheVariants as found
use Rattle.maker.specs.declared.making.Made.{Made}
use Rattle.maker.specs.declared.making.Made.TheVariants.{Patterns, Zone}

-- The coordinate of a cell, as the answers text writes it.
abbrev pub coord_of : Cell → Coord
coord_of c = record { row = c.row; column = c.column }

-- The list has the coordinates of the cells of a set, each once, in reading order.
pub record IsListOf (cells : Cells) (coords : List Coord) : Type 0 where
  pub same : cells_of coords ≡ cells
  pub order : AreInOrder coords

-- The lines are the made patterns of one box each, on the cells of a set in reading order.
abbrev pub AreLonePatterns : Cells → List PatternLine → Type 0
AreLonePatterns cells lines = (coords : List Coord) × IsListOf cells coords × (lines ≡ lone_patterns coords)

-- The line is the made pattern of boxes on all cells of a set, in reading order.
abbrev pub IsWholePattern : Cells → PatternLine → Type 0
IsWholePattern cells line = (coords : List Coord) × IsListOf cells coords × (line ≡ made_pattern coords)

-- Some box of the start is on a dead square.
abbrev pub HasDeadBox : Level → Type 0
HasDeadBox level = (c : Cell) × Has level.boxes c × IsDead level c

-- The members are the boxes of the largest frozen set.
abbrev pub AreFrozen : Level → Cells → Type 0
AreFrozen level frozen = (dead : Cells) × AreDead level dead × IsLargestFrozen level dead frozen

-- The lines are the dead patterns.
abbrev pub AreDeadPatterns : Level → List PatternLine → Type 0
AreDeadPatterns level lines = (dead : Cells) × AreDead level dead × AreLonePatterns dead lines

-- The lines are the list that is made if a box is on a dead square.
pub record IsMadeOfDead (level : Level) (lines : List PatternLine) : Type 0 where
  pub box : HasDeadBox level
  pub list : AreDeadPatterns level lines

-- The lines are the list that is made if no box is on a dead square and a frozen box is off the goals.
pub record IsMadeOfFrozen (level : Level) (lines : List PatternLine) : Type 0 where
  pub no_dead_box : HasDeadBox level → ⊥
  pub frozen : Cells
  pub exact : AreFrozen level frozen
  pub off_goals : (c : Cell) × Has frozen c × Lacks level.goals c
  pub first : List PatternLine
  pub dead : AreDeadPatterns level first
  pub last : PatternLine
  pub boxes : IsWholePattern frozen last
  pub list : lines ≡ first ++ last ∷ []

-- The lines are the list that is made for the level.
abbrev pub IsMadeList : Level → List PatternLine → Type 0
IsMadeList level lines = IsMadeOfDead level lines ⊎ IsMadeOfFrozen level lines

-- No list is made for the level: no box is on a dead square, and every frozen box is on a goal.
pub record HasNoList (level : Level) : Type 0 where
  pub no_dead_box : HasDeadBox level → ⊥
  pub on_goals : (frozen : Cells) → AreFrozen level frozen → (c : Cell) → Has frozen c → Has level.goals c

-- The line lists the least zone, and its line number is 0.
pub record IsLeastZoneLine (level : Level) (line : ZoneLine) : Type 0 where
  pub zone : Cells
  pub least : IsLeastZone level zone
  pub cells : IsListOf zone line.cells
  pub number : line.line ≡ 0

-- The line is the zone that is made if no list is.
pub record IsMadeZone (level : Level) (line : ZoneLine) : Type 0 where
  pub no_list : HasNoList level
  pub zone : IsLeastZoneLine level line

-- Nothing is made for the level: no list is made, and no closed set refutes the level.
pub record IsNothingMade (level : Level) : Type 0 where
  pub no_list : HasNoList level
  pub no_zone : SomeZoneRefutes level → ⊥

-- ---- in a value of Rust
-- The value is what is made for the level: a list of patterns, or a zone.
abbrev pub IsMade : Level → Made → Type 0
IsMade level (Patterns patterns) = IsMadeList level (map said_pattern patterns.items)
IsMade level (Zone zone) = IsMadeZone level (said_zone zone)

-- The checker accepts the value: a closed list of patterns, or a lawful closed zone that refutes the level.
abbrev pub IsAcceptedMade : Level → Made → Type 0
IsAcceptedMade level (Patterns patterns) = Closed level (patterns_of (map said_pattern patterns.items))
IsAcceptedMade level (Zone zone) = IsRefuting level (cells_of (said_zone zone).cells)

-- The body of the record that says what is made.
abbrev pub body_of : Made → MadeBody
body_of (Patterns patterns) = body.Patterns patterns
body_of (Zone zone) = body.Zone zone

-- The value has the cells of what is made for the level: of a list, or of a zone.
abbrev pub IsFound : Level → Found → Type 0
IsFound level (found.List dead frozen) = IsMadeList level (list_patterns dead.items frozen.items)
IsFound level (found.Zone cells) = IsMadeZone level (record { line = 0; cells = cells.items })

-- ---- laws
-- If a box is on a dead square, the list of dead patterns is closed.
abbrev pub DeadListsAreClosed : Type 0
DeadListsAreClosed = (level : Level) (lines : List PatternLine) → IsWellFormed level → IsMadeOfDead level lines → Closed level (patterns_of lines)

-- If a frozen box is off the goals, the list that ends with the frozen boxes is closed.
abbrev pub FrozenListsAreClosed : Type 0
FrozenListsAreClosed = (level : Level) (lines : List PatternLine) → IsWellFormed level → IsMadeOfFrozen level lines → Closed level (patterns_of lines)
