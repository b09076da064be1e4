use Rattle.std.proofs.Common.{◌++◌}
use Rattle.cellset.specs.Members.{AreMembersOf}
use Rattle.maker.specs.Search.{IsReady}
use Rattle.maker.specs.Hub.{IsTableWithHubs}
use Rattle.maker.proofs.Matchings.{IsMatchedSoFar}
use Rattle.maker.proofs.zones.match_all.Given as goal

abbrev pub invariant-loop-cell : goal.invariant-loop-cell
invariant-loop-cell g l = record {
  can_next : (goal.iterator-loop-cell g).can_next l.cell-iterator;
  is_finite : (goal.iterator-loop-cell g).is_finite l.cell-iterator;
  all : AreMembersOf l.board.shape l.board.boxes (l.yielded ++ l.cell-iterator);
  ready : IsReady l.board l.search;
  matching : IsTableWithHubs l.board l.matching;
  so_far : IsMatchedSoFar l.board l.matching.table.items l.yielded;
}
