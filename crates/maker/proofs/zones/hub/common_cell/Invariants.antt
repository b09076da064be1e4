use Rattle.std.specs.Prelude.{IfSome}
use Rattle.cellset.specs.Cell.{IsOn}
use Rattle.maker.proofs.zones.hub.common_cell.Given as goal

abbrev pub invariant-loop-part : goal.invariant-loop-part
invariant-loop-part l = record { found : IfSome l.found (IsOn l.cells.extent) }

abbrev pub invariant-loop-row : goal.invariant-loop-row
invariant-loop-row l = record { found : IfSome l.found (IsOn l.cells.extent) }
