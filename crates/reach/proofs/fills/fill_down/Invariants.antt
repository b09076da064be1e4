use Rattle.reach.proofs.Carries.{IsDownTo}
use Rattle.reach.proofs.fills.fill_down.Given as goal

abbrev pub invariant-loop-i : goal.invariant-loop-i
invariant-loop-i g l = IsDownTo l.free l.fn.row l.row l.i l.carry
