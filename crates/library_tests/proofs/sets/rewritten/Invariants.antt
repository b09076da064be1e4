use Rattle.std.proofs.Common.{◌≡◌}
use Rattle.library_tests.proofs.sets.rewritten.Given as goal

abbrev pub invariant-loop-row : goal.invariant-loop-row
invariant-loop-row g l = g.S.CellSet.extent l.copy ≡ g.S.CellSet.extent l.set

abbrev pub invariant-loop-part : goal.invariant-loop-part
invariant-loop-part g l = g.S.CellSet.extent l.copy ≡ g.S.CellSet.extent l.set
