-- A player among boxes.
use Rattle.std.specs.Prelude.{◌≡◌, ℕ, ◌<◌, length}
use Rattle.cellset.specs.{CellSet.Cells, CellSet.Has, declared.cell.Cell.Cell}
use Rattle.board.specs.Game.{Level, State}
use Rattle.certificates.specs.CellLists.{cells_in}
use Rattle.certificates.specs.Pattern.{Covers, Pattern}
use Rattle.closure.specs.{Groups.boxes_of, declared.groups.Groups.Groups, declared.place.Place.Place}

-- a group whose boxes are among these
pub record IsSubset (groups : Groups) (boxes : Cells) (g : ℕ) : Type 0 where
  pub within : g < length groups.spans.items
  pub has : (c : Cell) → Has (cells_in (boxes_of groups g)) c → Has boxes c

-- each pattern that covers these boxes with the one player covers them with the other
abbrev pub AreCoveredAlike : Level → Cells → Cell → Cell → Type 0
AreCoveredAlike level boxes p q =
    (pattern : Pattern) → Covers level pattern (record { player = p; boxes = boxes }) → Covers level pattern (record { player = q; boxes = boxes })

-- the state of the player and the boxes
abbrev pub state_at : Place → State
state_at place = record { player = place.player; boxes = place.boxes.members }

-- the place is on the board
pub record IsPlace (level : Level) (place : Place) : Type 0 where
  pub extent : place.boxes.extent ≡ level.shape
  pub room : Has level.room place.player
