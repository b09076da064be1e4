use Rattle.std.proofs.Common.{◌-◌}
use Rattle.reach.proofs.Runs.{IsDoublingDown}
use Rattle.reach.proofs.fills.word_down.Given as goal

abbrev pub invariant-loop-step : goal.invariant-loop-step
invariant-loop-step l = IsDoublingDown l.free l.seeds l.got l.run l.step

abbrev pub decreases-loop-step : goal.decreases-loop-step
decreases-loop-step l = 64 - l.step
