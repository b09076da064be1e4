use Rattle.std.proofs.Common.{length}
use Rattle.answers.specs.Grammar.{NoneEnds}
use Rattle.answers.specs.Held.{HasPassed}
use Rattle.answers.proofs.line.cut_at_end.Given as goal

abbrev pub invariant-loop-found : goal.invariant-loop-found
invariant-loop-found l = HasPassed NoneEnds l.lines l.left

abbrev pub decreases-loop-found : goal.decreases-loop-found
decreases-loop-found l = length l.left.text.now
