use Rattle.std.{proofs.Common.◌≡◌, proofs.Common.◌++◌, proofs.Common.ℕ, proofs.Common.slice_index, specs.List.Contains}
use Rattle.cellset.specs.{Members.AreMembersOf, SortedList.index, declared.cell.Cell.Cell}
use Rattle.closure.specs.Tables.{GroupCovers}
use Rattle.closure.proofs.index.is_covered.Given as goal

abbrev pub invariant-loop-cell : goal.invariant-loop-cell
invariant-loop-cell g l = record {
  can_next : (goal.iterator-loop-cell g).can_next l.cell-iterator;
  is_finite : (goal.iterator-loop-cell g).is_finite l.cell-iterator;
  all : AreMembersOf (g.S.CellSet.extent l.fn.boxes) (g.S.CellSet.members l.fn.boxes) (l.yielded ++ l.cell-iterator);
  passed : (c : Cell) (k : ℕ) → Contains l.yielded c → slice_index l.buckets.keys.items k ≡ index l.tables.board.now.shape c
      → GroupCovers l.tables.board.now l.tables.groups k (record { player = l.fn.player; boxes = g.S.CellSet.members l.fn.boxes }) → ⊥;
}
