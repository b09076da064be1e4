use Rattle.std.proofs.Common.{length}
use Rattle.sokoaudit_c.proofs.Places.{AreSpansSoFar}
use Rattle.sokoaudit_c.proofs.spans.sokoaudit_levels.Given as goal

abbrev pub invariant-loop-next : goal.invariant-loop-next
invariant-loop-next l = AreSpansSoFar l.levels l.rest l.initial.spans l.spans l.count

abbrev pub decreases-loop-next : goal.decreases-loop-next
decreases-loop-next l = length l.rest
