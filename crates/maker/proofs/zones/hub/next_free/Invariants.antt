use Rattle.std.specs.Prelude.{IfSome}
use Rattle.cellset.specs.Cell.{IsOn}
use Rattle.cellset.proofs.ReadingOrder.{cells_left}
use Rattle.maker.proofs.zones.hub.next_free.Given as goal

abbrev pub invariant-loop-from : goal.invariant-loop-from
invariant-loop-from g l = record { on : IfSome l.from (IsOn l.board.shape) }

abbrev pub decreases-loop-from : goal.decreases-loop-from
decreases-loop-from g l = cells_left l.board.shape l.from
