use Rattle.std.proofs.Common.{◌*◌}
use Rattle.maker.specs.Listed.{IsListedTo}
use Rattle.maker.proofs.cells.coords_in.Given as goal

abbrev pub invariant-loop-row : goal.invariant-loop-row
invariant-loop-row l = IsListedTo l.cells.members l.row 0 l.coords.items

abbrev pub invariant-loop-part : goal.invariant-loop-part
invariant-loop-part l = IsListedTo l.cells.members l.row (64 * l.part) l.coords.items
