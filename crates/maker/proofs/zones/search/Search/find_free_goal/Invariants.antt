use Rattle.std.proofs.Common.{◌≡◌, ℕ, ◌-◌, ◌<◌, length}
use Rattle.std.specs.FinSet as set
use Rattle.cellset.specs.CellSet.{Has}
use Rattle.maker.specs.Search.{IsReady, IsListing, IsSearch, IsPaired, cell_visited}
use Rattle.maker.specs.Hub.{IsTableWithHubs}
use Rattle.maker.proofs.Searches.{AreBoxesVisited}
use Rattle.maker.proofs.zones.search.Search.find_free_goal.Given as goal

abbrev pub invariant-loop-at : goal.invariant-loop-at
invariant-loop-at g l = record {
  ready : IsReady l.board l.self;
  listing : IsListing l.board l.self;
  is_search : IsSearch l.board l.fn.matching.table.items l.fn.start l.self;
  begins : Has l.self.visited.members l.fn.start;
  matching : IsTableWithHubs l.board l.matching;
  same : l.matching.table ≡ l.fn.matching.table;
  paired : (i : ℕ) → i < length l.self.found.items → IsPaired l.board.shape l.fn.matching.table.items (cell_visited l.self.found.items i);
  boxes : AreBoxesVisited l.board l.fn.matching.table.items l.self l.at;
}

abbrev pub decreases-loop-at : goal.decreases-loop-at
decreases-loop-at g l = set.len l.board.goals - l.at
