use Rattle.std.proofs.Common.{◌≡◌, ℕ, ◌<◌, ◌≤◌, length, slice_index_or, vec_capacity}
use Rattle.closure.specs.{GroupRegions.AreWaysAt, GroupRegions.IsRegionAt, Kept.AreKept, declared.kept.Region.Region}
use Rattle.closure.proofs.group_regions.find_regions.Given as goal

abbrev pub invariant-loop-group : goal.invariant-loop-group
invariant-loop-group g l = record {
  free_on : l.flood.free.extent ≡ l.board.shape;
  region_on : l.flood.region.extent ≡ l.board.shape;
  kept : AreKept l.board.shape l.kept;
  long : length l.ways.items ≡ length l.groups.arena.boxes.items;
  count : length l.of.items ≡ l.group;
  roomy : length l.groups.spans.items ≤ vec_capacity l.of;
  ways : (k : ℕ) → k < l.group → AreWaysAt l.board l.trap.members l.groups k l.ways.items;
  each : (k : ℕ) (r : Region) → k < l.group → IsRegionAt l.board l.trap.members l.groups l.kept k (slice_index_or l.of.items k r);
}
