use Rattle.std.proofs.Common.{◌≡◌, ℕ, ◌<◌, ◌≤◌}
use Rattle.maker.specs.Search.{IsPaired, cell_visited}
use Rattle.maker.specs.Hub.{IsTableWithHubs}
use Rattle.maker.proofs.zones.search.Search.end_of_path.Given as goal

abbrev pub invariant-loop-k : goal.invariant-loop-k
invariant-loop-k g l = record {
  matching : IsTableWithHubs l.board l.matching;
  same : l.matching.table ≡ l.fn.matching.table;
  paired : (i : ℕ) → l.from ≤ i → i < l.k → IsPaired l.board.shape l.fn.matching.table.items (cell_visited l.self.found.items i);
}
