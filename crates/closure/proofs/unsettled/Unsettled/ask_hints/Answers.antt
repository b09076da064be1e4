use Rattle.closure.proofs.Asked.{open_less, asked_on}
use Rattle.closure.proofs.unsettled.Unsettled.ask_hints.Goals as goal

pub ask_hinted-requires-clause-away : goal.ask_hinted-requires-clause-away
ask_hinted-requires-clause-away g c = open_less c.args.task.now _ _ c.requires.away c.loop-at.invariant.asked.away

pub ask_hinted-requires-clause-here : goal.ask_hinted-requires-clause-here
ask_hinted-requires-clause-here g c = open_less c.args.task.now _ _ c.requires.here c.loop-at.invariant.asked.here

pub loop-at-preserved-in-Some : goal.loop-at-preserved-in-Some
loop-at-preserved-in-Some g c = record { asked = asked_on _ _ _ _ c.loop-at.invariant.asked c.ask_hinted.ensures }
