use Rattle.std.proofs.Common.{◌-◌, ◌≤◌, length}
use Rattle.play.specs.Progress.{IsPlayed}
use Rattle.play.proofs.solution.play_line.Given as goal

abbrev pub invariant-chunks : goal.invariant-chunks
invariant-chunks l = IsPlayed l.fn.mailbox l.fn.run l.line l.at l.mailbox l.run

abbrev pub decreases-chunks : goal.decreases-chunks
decreases-chunks l = length l.line - l.at

abbrev pub invariant-small : goal.invariant-small
invariant-small l = IsPlayed l.fn.mailbox l.fn.run l.line l.at l.mailbox l.run × (l.initial.at ≤ l.at)

abbrev pub decreases-small : goal.decreases-small
decreases-small l = length l.line - l.at

abbrev pub invariant-others : goal.invariant-others
invariant-others l = IsPlayed l.fn.mailbox l.fn.run l.line l.at l.mailbox l.run × (l.initial.at ≤ l.at)

abbrev pub decreases-others : goal.decreases-others
decreases-others l = length l.line - l.at
