-- Buckets: by cell, groups that have a box there. Each group is in the bucket of one of its boxes.
use Rattle.std.specs.Prelude.{◌≡◌, ℕ, ◌*◌, ◌<◌, List, length, slice_index}
use Rattle.cellset.specs.{CellSet.Has, SortedList.index, declared.cell.Cell.Cell}
use Rattle.board.specs.Game.{Level}
use Rattle.certificates.specs.CellLists.{cells_in}
use Rattle.closure.specs.{Chains.AreChains, declared.buckets.Buckets.Buckets}
use Rattle.closure.specs.{declared.groups.Groups.Groups, Groups.boxes_of}

-- the group is in the bucket of one of its boxes
pub record IsInBucket (level : Level) (groups : Groups) (keys : List ℕ) (g : ℕ) : Type 0 where
  pub cell : Cell
  pub has : Has (cells_in (boxes_of groups g)) cell
  pub key : slice_index keys g ≡ index level.shape cell

pub record AreBuckets (level : Level) (groups : Groups) (buckets : Buckets) : Type 0 where
  pub long : length buckets.keys.items ≡ length groups.spans.items
  pub each : (g : ℕ) → g < length groups.spans.items → IsInBucket level groups buckets.keys.items g
  pub chained : AreChains buckets.keys.items (level.shape.width * level.shape.height) buckets.chains.first.items buckets.chains.next.items
