use Rattle.std.proofs.Common.{sym}
use Rattle.program.proofs.Printed.{done, said, said_memory, two}
use Rattle.program.proofs.program.run.Goals as goal

pub returns-in-Ok-clause-printed : goal.returns-in-Ok-clause-printed
returns-in-Ok-clause-printed g c = λ request asks known less.
    done _ _ _ _ _ _ _ (sym (c.in-Ok.ensures.only request asks)) known c.carry_out.ensures.printed c.status_of.ensures.value less

pub returns-in-Ok-clause-said : goal.returns-in-Ok-clause-said
returns-in-Ok-clause-said g c = λ two request asks.
    said _ _ _ _ _ _ _ _ _ (c.in-Ok.ensures.only request asks) c.carry_out.ensures.status c.carry_out.ensures.due c.carry_out.ensures.cause
    c.status_of.ensures.said c.status_of.ensures.value two

pub returns-in-Err-clause-said : goal.returns-in-Err-clause-said
returns-in-Err-clause-said g c = λ two request asks.
    said_memory g.E.Sink.held g.E.Sink.failures _ _ _ _ _ _ _ _
    (c.answer.ensures.memory (c.in-Err.ensures.only request asks)) c.answer.ensures.quiet c.answer.ensures.cause c.status_of-in-Err.ensures.said

pub returns-in-Ok-clause-two : goal.returns-in-Ok-clause-two
returns-in-Ok-clause-two g c = λ request asks error.
    two _ _ _ _ _ _ _ (c.in-Ok.ensures.only request asks) error c.carry_out.ensures.printed (c.errors_print_nothing.ensures _ _) c.status_of.ensures.value
