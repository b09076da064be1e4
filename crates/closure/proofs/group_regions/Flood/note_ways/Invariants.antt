use Rattle.std.proofs.Common.{◌≡◌, ℕ, ◌+◌, ◌<◌, cond, length, slice_index_or}
use Rattle.cellset.specs.CellSet.{Has}
use Rattle.certificates.specs.CellLists.{cell_no}
use Rattle.closure.specs.{GroupRegions.no_ways, Ways.AreWays}
use Rattle.closure.proofs.group_regions.Flood.note_ways.Given as goal

abbrev pub invariant-loop-number : goal.invariant-loop-number
invariant-loop-number l = record {
  long : length l.ways.items ≡ length l.initial.ways.items;
  noted : (i : ℕ) → i < l.number → AreWays (Has (cond l.whole l.self.free.members l.self.region.members)) (Has l.self.free.members) (cell_no l.boxes i)
      (slice_index_or l.ways.items (l.from + i) no_ways);
  kept : (k : ℕ) → k < l.from → slice_index_or l.ways.items k no_ways ≡ slice_index_or l.initial.ways.items k no_ways;
}
