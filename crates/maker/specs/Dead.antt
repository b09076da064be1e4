-- Live cells, from which a box could be pushed to a goal if there were no other boxes, and dead squares, from which it couldn't.
--     relaxed push    a push of a box to the next cell that would be possible if there were no other box
--     live            the goals, and each cell from which a relaxed push leads to a live cell
--     dead square     a cell that isn't live and that is in the room or holds a box at the start
use Rattle.std.specs.Prelude.{◌≡◌, ◌↔◌, ◌⊎◌}
use Rattle.cellset.specs.Cell.{neighbor, opposite}
use Rattle.cellset.specs.CellSet.{Cells, CellsOn, Has}
use Rattle.cellset.specs.declared.cell.Cell.{Cell}
use Rattle.cellset.specs.declared.dir.Dir.{Dir}
use Rattle.board.specs.Game.{Level, IsFloor}

-- A relaxed push is possible: the cell behind the box is in the room, and the cell ahead of it is floor.
pub record IsRelaxedPush (level : Level) (c : Cell) (d : Dir) : Type 0 where
  pub player : Has level.room (neighbor c (opposite d))
  pub floor : IsFloor level (neighbor c d)

-- The live cells are the least set that has the goals and each cell from which a relaxed push leads into it.
pub data IsLive (level : Level) : Cell → Type 0 where
  at_goal : {c : Cell} → Has level.goals c → IsLive level c
  pushed : {c : Cell} (d : Dir) → IsRelaxedPush level c d → IsLive level (neighbor c d) → IsLive level c

-- A dead square isn't live, and is in the room or holds a box at the start.
abbrev pub IsDead : Level → Cell → Type 0
IsDead level c = (Has level.room c ⊎ Has level.boxes c) × (IsLive level c → ⊥)

-- The members of the set are the dead squares of the level.
abbrev pub AreDead : Level → Cells → Type 0
AreDead level dead = (c : Cell) → Has dead c ↔ IsDead level c

-- The set is the level's room, on its grid.
abbrev pub IsRoomOf : Level → CellsOn → Type 0
IsRoomOf level room = (room.extent ≡ level.shape) × (room.members ≡ level.room)
