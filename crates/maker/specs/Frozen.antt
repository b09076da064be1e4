-- Frozen boxes: boxes of the start that can't be pushed, except onto dead squares.
--     held        in a direction, a box can't be pushed, or only onto a dead square: the cell behind it is outside the room or
--                 has a box of the set, or the cell ahead of it is no floor, is dead, or has a box of the set
--     frozen      boxes of the start, each held in every direction
--     largest     the union of all frozen sets, which is frozen too
use Rattle.std.specs.Prelude.{◌↔◌, ◌⊎◌}
use Rattle.cellset.specs.Cell.{neighbor, opposite}
use Rattle.cellset.specs.CellSet.{Cells, Has, Lacks}
use Rattle.cellset.specs.declared.cell.Cell.{Cell}
use Rattle.cellset.specs.declared.dir.Dir.{Dir}
use Rattle.board.specs.Game.{Level, IsFloor}

-- The cell behind the box is outside the room or has a box of the set.
abbrev pub IsHeldBehind : Level → Cells → Cell → Type 0
IsHeldBehind level frozen behind = Lacks level.room behind ⊎ Has frozen behind

-- The cell ahead of the box isn't floor, is a dead square, or has a box of the set.
abbrev pub IsHeldAhead : Level → Cells → Cells → Cell → Type 0
IsHeldAhead level dead frozen ahead = (IsFloor level ahead → ⊥) ⊎ (Has frozen ahead ⊎ Has dead ahead)

-- The box at b is held in a direction.
abbrev pub IsHeld : Level → Cells → Cells → Cell → Dir → Type 0
IsHeld level dead frozen b d = IsHeldBehind level frozen (neighbor b (opposite d)) ⊎ IsHeldAhead level dead frozen (neighbor b d)

-- The cells are boxes of the start, and each is held in every direction.
pub record IsFrozen (level : Level) (dead frozen : Cells) : Type 0 where
  pub boxes : (c : Cell) → Has frozen c → Has level.boxes c
  pub held : (b : Cell) (d : Dir) → Has frozen b → IsHeld level dead frozen b d

-- The cell is a box of some frozen set.
abbrev pub IsInSomeFrozen : Level → Cells → Cell → Type 0
IsInSomeFrozen level dead c = (frozen : Cells) × IsFrozen level dead frozen × Has frozen c

-- The members of the set are the boxes of all frozen sets.
abbrev pub IsLargestFrozen : Level → Cells → Cells → Type 0
IsLargestFrozen level dead largest = (c : Cell) → Has largest c ↔ IsInSomeFrozen level dead c
