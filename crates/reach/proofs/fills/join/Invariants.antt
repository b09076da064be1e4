use Rattle.reach.proofs.Joins.{IsJoining}
use Rattle.reach.proofs.fills.join.Given as goal

abbrev pub invariant-loop-i : goal.invariant-loop-i
invariant-loop-i g l = IsJoining l.free l.here l.fn.row l.row l.i l.grew
