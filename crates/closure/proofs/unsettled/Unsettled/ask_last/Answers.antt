use Rattle.closure.proofs.Asked.{open_less, asked_on, component_less}
use Rattle.closure.proofs.unsettled.Unsettled.ask_last.Goals as goal

pub settle_by-requires-clause-here : goal.settle_by-requires-clause-here
settle_by-requires-clause-here g c = open_less c.args.task.now _ _ c.requires.here c.ask.ensures.asked.here

pub settle_by-requires-clause-component : goal.settle_by-requires-clause-component
settle_by-requires-clause-component g c = component_less c.args.task.now _ _ _ c.requires.component c.ask.ensures.asked.here.only

pub returns-clause-asked : goal.returns-clause-asked
returns-clause-asked g c = asked_on _ _ _ _ c.ask.ensures.asked c.settle_by.ensures.asked
