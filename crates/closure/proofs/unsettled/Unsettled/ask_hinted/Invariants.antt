use Rattle.closure.specs.Settling.{HasAsked}
use Rattle.closure.proofs.unsettled.Unsettled.ask_hinted.Given as goal

abbrev pub invariant-loop-turn : goal.invariant-loop-turn
invariant-loop-turn g l = record { asked : HasAsked l.task l.fn.self l.self }
