use Rattle.std.proofs.Common.{◌-◌, length}
use Rattle.play.specs.Progress.{IsPlayed}
use Rattle.play.proofs.Sums.{led}
use Rattle.play.proofs.walks.walk_masked.Given as goal

abbrev pub invariant-chunks : goal.invariant-chunks
invariant-chunks l = IsPlayed l.mailbox l.fn.run l.text l.at l.mailbox (led l.fn.run l.player l.moves)

abbrev pub decreases-chunks : goal.decreases-chunks
decreases-chunks l = length l.text - l.at
