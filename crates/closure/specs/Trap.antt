-- Traps of lists.
--   single       the pattern of one box with `*` for its seeds
--   trap         cells whose singles are in the list, and out of which no push within the room leads
--   trapped      having a box on the trap
use Rattle.std.specs.{Prelude.◌≡◌, Prelude.List, List.Contains}
use Rattle.cellset.specs.{CellSet.Cells, CellSet.CellsOn, CellSet.Has, CellSet.Lacks, CellSet.only, declared.cell.Cell.Cell}
use Rattle.reach.specs.Reached.{IsClosedUnder, PushesTo}
use Rattle.board.specs.Game.{Level}
use Rattle.certificates.specs.CellLists.{cells_in}
use Rattle.certificates.specs.Pattern.{Pattern, whole_room}

-- one box on the cell, with `*`
abbrev pub single : Cell → Pattern
single c = record { boxes = only c; seeds = whole_room }

-- the list has the single of each cell
abbrev pub AreSinglesIn : List Pattern → Cells → Type 0
AreSinglesIn patterns cells = (c : Cell) → Has cells c → Contains patterns (single c)

-- the cells are a trap of the list; no cells are one of any list
pub record IsTrapOf (level : Level) (patterns : List Pattern) (trap : CellsOn) : Type 0 where
  pub extent : trap.extent ≡ level.shape
  pub singles : AreSinglesIn patterns trap.members
  pub closed : IsClosedUnder (PushesTo (Has level.room)) (Has trap.members)

-- a box of the pattern is on the trap
abbrev pub IsTrapped : Cells → Pattern → Type 0
IsTrapped trap pattern = (c : Cell) × Has pattern.boxes c × Has trap c

-- each pattern has a box on the trap
abbrev pub AreTrapped : Cells → List Pattern → Type 0
AreTrapped trap patterns = (pattern : Pattern) → Contains patterns pattern → IsTrapped trap pattern

-- none of the boxes is on the trap
abbrev pub AreOff : Cells → List Cell → Type 0
AreOff trap boxes = (c : Cell) → Has (cells_in boxes) c → Lacks trap c
