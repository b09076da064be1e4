use Rattle.std.proofs.Common.{take}
use Rattle.closure.specs.Trap.{AreOff}
use Rattle.closure.proofs.trap.is_trapped.Given as goal

abbrev pub invariant-loop-cell : goal.invariant-loop-cell
invariant-loop-cell l = AreOff l.trap.members (take l.cell-index l.boxes)
