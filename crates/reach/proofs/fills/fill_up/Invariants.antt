use Rattle.reach.proofs.Carries.{IsUpTo}
use Rattle.reach.proofs.fills.fill_up.Given as goal

abbrev pub invariant-loop-i : goal.invariant-loop-i
invariant-loop-i g l = IsUpTo l.free l.fn.row l.row l.i l.carry
