-- Pushes out of a region.
--     IsPushOut      one push: the player is in the region, a box is next to it, and the cell after the box is free
--     PushBefore      the order of pushes: by the player's cell in reading order, then left, up, right, down
--     ArePushesOut      all pushes out of a region, each once, in this order
use Rattle.std.specs.Prelude.{◌≡◌, ℕ, ◌↔◌, List}
use Rattle.std.specs.List.{Contains}
use Rattle.std.specs.List.Sorted.{IsStrictlySortedBy}
use Rattle.std.specs.declared.cmp.Ordering.{Ordering}
use Rattle.std.specs.declared.cmp.Ordering.TheVariants.{Less}
use Rattle.std.specs.Ordering.{nat_cmp, ordering_then}
use Rattle.cellset.specs.Shape.{Extent}
use Rattle.cellset.specs.Cell.{neighbor, cell_cmp}
use Rattle.cellset.specs.CellSet.{Cells, Has}
use Rattle.cellset.specs.declared.cell.Cell.{Cell}
use Rattle.cellset.specs.declared.dir.Dir.{Dir}
use Rattle.cellset.specs.declared.dir.Dir.TheVariants.{L, U, R, D}
use Rattle.reach.specs.Region.{IsFree}
use Rattle.reach.specs.declared.pushes.Push.{Push}

-- a player in the region who steps in the direction pushes a box, and the cell after the box is on the grid, no wall and no box
pub record IsPushOut (shape : Extent) (walls boxes : Cells) (InRegion : Cell → Type 0) (push : Push) : Type 0 where
  pub standing : InRegion push.player
  pub next_cell : push.from ≡ neighbor push.player push.dir
  pub box : Has boxes push.from
  pub cell_behind : push.to ≡ neighbor push.from push.dir
  pub free : IsFree shape walls boxes push.to

-- the push by which a player steps from the cell in the direction
abbrev pub push_by : Cell → Dir → Push
push_by c d = record { player = c; dir = d; from = neighbor c d; to = neighbor (neighbor c d) d }

-- the place of a direction in the order left, up, right, down
abbrev pub dir_rank : Dir → ℕ
dir_rank L = 0
dir_rank U = 1
dir_rank R = 2
dir_rank D = 3

-- the order of pushes: by the player's cell in reading order, then by direction
abbrev pub push_cmp : Push → Push → Ordering
push_cmp a b = ordering_then (cell_cmp a.player b.player) (nat_cmp (dir_rank a.dir) (dir_rank b.dir))

-- the first push comes before the second
abbrev pub PushBefore : Push → Push → Type 0
PushBefore a b = push_cmp a b ≡ Less

-- exactly the pushes out of the region, each once, in order
pub record ArePushesOut (shape : Extent) (walls boxes : Cells) (InRegion : Cell → Type 0) (pushes : List Push) : Type 0 where
  pub exact : (push : Push) → Contains pushes push ↔ IsPushOut shape walls boxes InRegion push
  pub in_order : IsStrictlySortedBy push_cmp pushes
