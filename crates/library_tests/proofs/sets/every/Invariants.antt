use Rattle.std.proofs.Common.{◌≡◌}
use Rattle.library_tests.proofs.sets.every.Given as goal

abbrev pub invariant-loop-row : goal.invariant-loop-row
invariant-loop-row g l = g.S.CellSet.extent l.set ≡ l.shape

abbrev pub invariant-loop-column : goal.invariant-loop-column
invariant-loop-column g l = g.S.CellSet.extent l.set ≡ l.shape
