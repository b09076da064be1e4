use Rattle.std.proofs.Common.{◌≡◌}
use Rattle.calls.proofs.lists.look_up.Given as goal

abbrev pub invariant-loop-push : goal.invariant-loop-push
invariant-loop-push g l = g.C.Coverage.extent l.coverage ≡ l.board.shape × g.S.CellSet.extent l.boxes ≡ l.board.shape
