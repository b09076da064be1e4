use Rattle.std.specs.FinSet as set
use Rattle.maker.proofs.Searches.{IsPartlyListed}
use Rattle.maker.proofs.zones.search.Search.list_goals.Given as goal

abbrev pub invariant-loop-row : goal.invariant-loop-row
invariant-loop-row l = IsPartlyListed l.via l.fn.self l.self l.row

abbrev pub invariant-loop-cell : goal.invariant-loop-cell
invariant-loop-cell l = IsPartlyListed l.via l.fn.self l.self l.row

abbrev pub decreases-loop-cell : goal.decreases-loop-cell
decreases-loop-cell l = set.len l.self.left.members
