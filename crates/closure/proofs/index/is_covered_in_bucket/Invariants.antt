use Rattle.std.proofs.Common.{◌≡◌, ℕ, ◌<◌, ◌≤◌, ◌-◌, length, slice_index}
use Rattle.cellset.specs.SortedList.{index}
use Rattle.closure.specs.Tables.{GroupCovers}
use Rattle.closure.proofs.index.is_covered_in_bucket.Given as goal

abbrev pub invariant-loop-at : goal.invariant-loop-at
invariant-loop-at g l = record {
  within : l.at ≤ length l.tables.groups.spans.items;
  key : 0 < l.at → slice_index l.buckets.keys.items (l.at - 1) ≡ index l.tables.board.now.shape l.fn.cell;
  passed : (k : ℕ) → l.at ≤ k → slice_index l.buckets.keys.items k ≡ index l.tables.board.now.shape l.fn.cell
      → GroupCovers l.tables.board.now l.tables.groups k (record { player = l.player; boxes = g.S.CellSet.members l.boxes }) → ⊥;
}

abbrev pub decreases-loop-at : goal.decreases-loop-at
decreases-loop-at g l = l.at
