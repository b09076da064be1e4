use Rattle.closure.specs.Settling.{HasAsked}
use Rattle.closure.proofs.unsettled.Unsettled.ask_hints.Given as goal

abbrev pub invariant-loop-at : goal.invariant-loop-at
invariant-loop-at g l = record { asked : HasAsked l.task l.fn.self l.self }

abbrev pub decreases-loop-at : goal.decreases-loop-at
decreases-loop-at g l = l.at
