use Rattle.std.proofs.Common.{◌≡◌}
use Rattle.std.specs.Prelude.{IfSome}
use Rattle.cellset.specs.Cell.{IsOn}
use Rattle.library_tests.proofs.pictures.marked.Given as goal

abbrev pub invariant-loop-byte : goal.invariant-loop-byte
invariant-loop-byte g l = (g.S.CellSet.extent l.set ≡ l.shape) × IfSome l.at (IsOn l.shape)
