use Rattle.closure.proofs.Asked.{open_less, asked_on}
use Rattle.closure.proofs.unsettled.Unsettled.ask_hinted.Goals as goal

pub ask-inside-requires-clause-away : goal.ask-inside-requires-clause-away
ask-inside-requires-clause-away g c = open_less c.args.task.now _ _ c.requires.away c.loop-turn.invariant.asked.away

pub ask-inside-requires-clause-here : goal.ask-inside-requires-clause-here
ask-inside-requires-clause-here g c = open_less c.args.task.now _ _ c.requires.here c.loop-turn.invariant.asked.here

pub loop-turn-preserved : goal.loop-turn-preserved
loop-turn-preserved g c = record { asked = asked_on _ _ _ _ c.loop-turn.invariant.asked c.ask-inside.ensures.asked }
