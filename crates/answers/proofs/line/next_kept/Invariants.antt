use Rattle.std.proofs.Common.{length}
use Rattle.answers.specs.Held.{AreNone, HasPassed}
use Rattle.answers.proofs.line.next_kept.Given as goal

abbrev pub invariant-loop-found : goal.invariant-loop-found
invariant-loop-found l = HasPassed AreNone l.lines l.left

abbrev pub decreases-loop-found : goal.decreases-loop-found
decreases-loop-found l = length l.left.text.now
