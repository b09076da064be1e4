-- Pushes out of groups, box by box and direction by direction, and which of them the list covers.
use Rattle.std.specs.Prelude.{◌≡◌, ℕ, ◌<◌, Bool, false, IsTrue, List, length, slice_index_or}
use Rattle.cellset.specs.{declared.cell.Cell.Cell, declared.dir.Dir.Dir}
use Rattle.reach.specs.declared.pushes.Push.{Push}
use Rattle.board.specs.Game.{Level}
use Rattle.certificates.specs.CellLists.{cell_no}
use Rattle.certificates.specs.Pattern.{Pattern, IsCovered, PushesOut, after_push, CoversPushesOf}
use Rattle.certificates.specs.Pattern.{InPatternRegion}
use Rattle.closure.specs.{declared.tables.PushedBox.PushedBox, declared.tables.Tables.Tables, declared.groups.Groups.Groups, Groups.boxes_of, Groups.list_of, Groups.position_at}
use Rattle.closure.specs.{GroupRegions.IsFreeAt, Ways.AreWays}

-- the push out of the pattern moves the box on this cell in the direction
pub record IsPushOf (level : Level) (pattern : Pattern) (cell : Cell) (dir : Dir) (push : Push) : Type 0 where
  pub out : PushesOut level pattern push
  pub from : push.from ≡ cell
  pub dir_is : push.dir ≡ dir

-- no push out of the pattern moves the box on this cell in the direction
abbrev pub HasNoPush : Level → Pattern → Cell → Dir → Type 0
HasNoPush level pattern cell dir = (push : Push) → PushesOut level pattern push → push.from ≡ cell → push.dir ≡ dir → ⊥

-- the list covers the result of each push out of the pattern that moves the box on this cell in the direction
abbrev pub CoversToward : Level → List Pattern → Pattern → Cell → Dir → Type 0
CoversToward level patterns pattern cell dir = (push : Push) → PushesOut level pattern push → push.from ≡ cell → push.dir ≡ dir → IsCovered level patterns (after_push pattern push)

-- the list covers the result of each push out of the pattern that moves the box on this cell
abbrev pub CoversFrom : Level → List Pattern → Pattern → Cell → Type 0
CoversFrom level patterns pattern cell = (push : Push) → PushesOut level pattern push → push.from ≡ cell → IsCovered level patterns (after_push pattern push)

-- the cell of the box that moves
abbrev pub pushed_cell : PushedBox → Cell
pushed_cell pushed = cell_no pushed.boxes.now pushed.number

-- there is a note for each group, and the list covers the pushes out of its position if the note is true
pub record AreNoted (level : Level) (groups : Groups) (noted : List Bool) : Type 0 where
  pub long : length noted ≡ length groups.spans.items
  pub covers : (g : ℕ) → g < length noted → IsTrue (slice_index_or noted g false) → CoversPushesOf level (list_of groups) (position_at level groups g)

-- a box of a group, and the ways of the pushes out of it
pub record IsPushedBox {S : Type 0} (tables : Tables S) (pushed : PushedBox) : Type 0 where
  pub group : pushed.group < length tables.groups.spans.items
  pub boxes : pushed.boxes.now ≡ boxes_of tables.groups pushed.group
  pub number : pushed.number < length pushed.boxes.now
  pub ways : AreWays (InPatternRegion tables.board.now (position_at tables.board.now tables.groups pushed.group)) (IsFreeAt tables.board.now tables.groups pushed.group)
      (pushed_cell pushed) pushed.ways
