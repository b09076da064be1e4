-- The component of a player in the room less some boxes.
use Rattle.std.specs.Prelude.{◌≡◌, ◌↔◌, List, MatchBool}
use Rattle.std.specs.List.{Contains}
use Rattle.cellset.specs.{CellSet.Cells, CellSet.CellsOn, CellSet.Has, CellSet.Lacks, declared.cell.Cell.Cell}
use Rattle.reach.specs.declared.pushes.Push.{Push}
use Rattle.board.specs.Game.{Level}
use Rattle.closure.specs.{Place.AreCoveredAlike, declared.group_regions.Flood.Flood}

-- the room less the boxes
pub record IsFreeOf (level : Level) (boxes : Cells) (free : CellsOn) : Type 0 where
  pub extent : free.extent ≡ level.shape
  pub members : (c : Cell) → Has free.members c ↔ (Has level.room c × Lacks boxes c)

-- the cell is in the component that a flood found: all that is free if that is in one component, or the region
abbrev pub InComponent : Flood → Cell → Type 0
InComponent flood c = MatchBool flood.whole (Has flood.free.members c) (Has flood.region.members c)

-- the player isn't on a box, and a pattern covers the boxes with it exactly if it does with the player of each push
pub record AreInComponent (level : Level) (boxes : Cells) (player : Cell) (pushes : List Push) : Type 0 where
  pub outside : Lacks boxes player
  pub onward : (push : Push) → Contains pushes push → AreCoveredAlike level boxes player push.player
  pub back : (push : Push) → Contains pushes push → AreCoveredAlike level boxes push.player player
