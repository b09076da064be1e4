-- The region of a pattern whose seeds are the whole room is the room less the boxes. These cells are floor outside
-- the boxes, so each is in the region as a seed of its own. A chain from such a cell does not leave them, since the
-- room of a level that was read goes on over every floor cell beside it.
use Rattle.std.specs.Prelude.{◌↔◌}
use Rattle.std.specs.FinSet as set
use Rattle.cellset.specs.{Cell.IsOn, CellSet.Cells, CellSet.Has, CellSet.Lacks, declared.cell.Cell.Cell}
use Rattle.reach.specs.{Region.InRegion, Region.at_seed, Region.beside}
use Rattle.board.specs.{Game.Level, Board.IsWellFormed}
use Rattle.certificates.proofs.Sets.{has_difference, in_difference}
use Rattle.certificates.specs.Pattern.{Pattern, whole_room, InPatternRegion}

-- A region has no box.
pub region_lacks : (level : Level) (pattern : Pattern) (c : Cell) → InPatternRegion level pattern c → Lacks pattern.boxes c
region_lacks level pattern c (at_seed seed free) = free.no_bar
region_lacks level pattern c (beside d before free) = free.no_bar

-- a cell of a region is on the grid
pub region_on : (level : Level) (pattern : Pattern) (c : Cell) → InPatternRegion level pattern c → IsOn level.shape c
region_on level pattern c (at_seed seed free) = free.on
region_on level pattern c (beside d before free) = free.on

-- The cells of the room without a box are the region of `*`. A region is the same if its boxes are taken out of it.
module _ (level : Level) (formed : IsWellFormed level) (boxes : Cells) where
  in_room : (c : Cell) → InRegion level.shape level.walls boxes (set.difference level.room boxes) c → Has level.room c
  in_room c (at_seed seed free) = (has_difference level.room boxes c seed).0
  in_room c (beside {c = b} d before free) = formed.goes_on b d (in_room b before) (free.on, free.no_wall)

  pub room_outside : (c : Cell) → (Has level.room c × Lacks boxes c) ↔ InPatternRegion level (record { boxes = boxes; seeds = whole_room }) c
  room_outside c = (
    λ both.
        let floor = formed.room c both.0 in
        at_seed (in_difference level.room boxes c both.0 both.1) (record { on = floor.0; no_wall = floor.1; no_bar = both.1 }),
    λ chain. (in_room c chain, region_lacks level (record { boxes = boxes; seeds = whole_room }) c chain),
  )

pub region_outside : (level : Level) (pattern : Pattern) (region : Cells) (c : Cell) → (Has region c ↔ InPatternRegion level pattern c) →
    (Has region c × Lacks pattern.boxes c) ↔ InPatternRegion level pattern c
region_outside level pattern region c exact = (λ both. exact.0 both.0, λ inside. (exact.1 inside, region_lacks level pattern c inside))
