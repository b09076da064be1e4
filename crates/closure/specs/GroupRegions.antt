-- What is kept of the regions of groups: their rows, and in which directions each box can be pushed. Nothing is kept of trapped groups.
use Rattle.std.specs.Prelude.{◌≡◌, ◌↔◌, ℕ, ◌+◌, ◌<◌, List, length, slice_index_or}
use Rattle.cellset.specs.{CellSet.Cells, CellSet.Has, CellSet.Lacks, declared.cell.Cell.Cell}
use Rattle.board.specs.Game.{Level}
use Rattle.certificates.specs.CellLists.{cell_no, cells_in}
use Rattle.certificates.specs.Pattern.{InPatternRegion}
use Rattle.closure.specs.{Kept.AreKept, Kept.IsThere, Kept.KeptHas, Trap.AreOff, Ways.AreWays, declared.kept.Kept.Kept, declared.kept.Region.Region}
use Rattle.closure.specs.{declared.group_regions.Regions.Regions, declared.groups.Groups.Groups, Spans.span_at, declared.ways.Ways.Ways}
use Rattle.closure.specs.Groups.{boxes_of, position_at}

abbrev pub no_ways : Ways
no_ways = record { bits = 0 }

-- the rows that are kept of a group say of each cell of the room but its boxes whether it is in the region of its position, unless the group
-- is trapped
pub record IsRegionAt (level : Level) (trap : Cells) (groups : Groups) (kept : Kept) (g : ℕ) (region : Region) : Type 0 where
  pub there : IsThere kept region
  pub says : AreOff trap (boxes_of groups g) → (c : Cell) → Has level.room c → Lacks (cells_in (boxes_of groups g)) c
      → KeptHas kept region c ↔ InPatternRegion level (position_at level groups g) c

-- a cell of the room without a box of the group
abbrev pub IsFreeAt : Level → Groups → ℕ → Cell → Type 0
IsFreeAt level groups g c = Has level.room c × Lacks (cells_in (boxes_of groups g)) c

-- the entries of a group's boxes have the ways of the pushes out of its position, unless the group is trapped
abbrev pub AreWaysAt : Level → Cells → Groups → ℕ → List Ways → Type 0
AreWaysAt level trap groups g ways =
    AreOff trap (boxes_of groups g) → (i : ℕ) → i < length (boxes_of groups g)
    → AreWays (InPatternRegion level (position_at level groups g)) (IsFreeAt level groups g) (cell_no (boxes_of groups g) i)
    (slice_index_or ways ((span_at groups.spans.items g).from + i) no_ways)

-- what is kept of the region of each group's position, with an entry for each box in the vector of all boxes
pub record AreRegions (level : Level) (trap : Cells) (groups : Groups) (regions : Regions) : Type 0 where
  pub kept : AreKept level.shape regions.kept
  pub long : length regions.ways.items ≡ length groups.arena.boxes.items
  pub count : length regions.of.items ≡ length groups.spans.items
  pub ways : (g : ℕ) → g < length groups.spans.items → AreWaysAt level trap groups g regions.ways.items
  pub each : (g : ℕ) (r : Region) → g < length groups.spans.items → IsRegionAt level trap groups regions.kept g (slice_index_or regions.of.items g r)
