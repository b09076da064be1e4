use Rattle.std.proofs.Common.{◌≡◌, ◌<◌, ◌≤◌, ◌-◌, length, slice_index}
use Rattle.cellset.specs.CellSet.{Has}
use Rattle.closure.specs.Groups.{HasSeedsFrom, HasSeedsOnly}
use Rattle.closure.proofs.group_regions.seed.Given as goal

abbrev pub invariant-loop-at : goal.invariant-loop-at
invariant-loop-at l = record {
  extent : l.region.extent ≡ l.free.extent;
  last : (0 < l.at → slice_index l.groups.of.items (l.at - 1) ≡ l.group) × (l.at ≤ length l.groups.of.items);
  only : HasSeedsOnly (Has l.free.members) (Has l.region.members) l.groups l.group;
  found : HasSeedsFrom (Has l.free.members) (Has l.region.members) l.groups l.group l.at;
}

abbrev pub decreases-loop-at : goal.decreases-loop-at
decreases-loop-at l = l.at
