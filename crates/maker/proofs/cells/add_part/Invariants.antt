use Rattle.std.proofs.Common.{◌*◌}
use Rattle.maker.proofs.RowLists.{IsListing}
use Rattle.maker.proofs.cells.add_part.Given as goal

abbrev pub invariant-loop-bits : goal.invariant-loop-bits
invariant-loop-bits l = IsListing l.cells.members l.row (64 * l.part) l.bits l.coords.items

abbrev pub decreases-loop-bits : goal.decreases-loop-bits
decreases-loop-bits l = l.bits
