use Rattle.std.proofs.Common.{length}
use Rattle.board.specs.Cut.{IsPassed}
use Rattle.board.proofs.collection.next_level.Given as goal

abbrev pub invariant-loop-from : goal.invariant-loop-from
invariant-loop-from l = IsPassed l.text l.from

abbrev pub decreases-loop-from : goal.decreases-loop-from
decreases-loop-from l = length l.from
