use Rattle.std.proofs.Common.{inl, inr}
use Rattle.program.proofs.program.refuse.Goals.{in-OutOfMemory, in_default}
use Rattle.program.proofs.program.refuse.Goals as goal

pub returns-clause-said : goal.returns-clause-said
returns-clause-said g c = elim c.match-kind.branch [ in-OutOfMemory w ↦ inl (rw w.fault-is at c.print_line.ensures) | in_default w ↦ inr (rw w.fault-is at c.print_line.ensures) ]
