use Rattle.std.proofs.Common.{length}
use Rattle.board.proofs.LevelRuns.{IsRunSoFar}
use Rattle.board.proofs.collection.pass_run.Given as goal

abbrev pub invariant-loop-rest : goal.invariant-loop-rest
invariant-loop-rest l = IsRunSoFar l.text l.rest l.width l.height

abbrev pub decreases-loop-rest : goal.decreases-loop-rest
decreases-loop-rest l = length l.rest
