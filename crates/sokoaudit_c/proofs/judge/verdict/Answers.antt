use Rattle.std.proofs.Common.{◌∙◌}
use Rattle.sokoaudit_c.specs.Judged.{answers_around}
use Rattle.sokoaudit_c.proofs.Judging.{one_err, one_ok}
use Rattle.sokoaudit_c.proofs.judge.verdict.Goals as goal

pub returns-in-Ok-judge_texts-clause-ok : goal.returns-in-Ok-judge_texts-clause-ok
returns-in-Ok-judge_texts-clause-ok c =
    let level = c.args.level.now in
    let at = answers_around c.args.kind c.args.body.now in
    let around = rw (c.deref.ensures.value ∙ c.in-Ok.ensures) at c.in-Ok-judge_texts.ensures.ok.0 in
    let are = rw (← c.deref-in-Ok-judge_texts.ensures.value) at around in
    one_ok level at c.deref-in-Ok-judge_texts.result.now c.only_status.result are c.only_status.ensures.ok

pub returns-in-Ok-judge_texts-clause-err : goal.returns-in-Ok-judge_texts-clause-err
returns-in-Ok-judge_texts-clause-err c =
    let around = rw (c.deref.ensures.value ∙ c.in-Ok.ensures) at c.in-Ok-judge_texts.ensures.ok.0 in
    let are = rw (← c.deref-in-Ok-judge_texts.ensures.value) at around in
    one_err c.args.level.now c.args.kind c.args.body.now c.deref-in-Ok-judge_texts.result.now c.only_status.result are c.only_status.ensures.err

pub returns-clause-err : goal.returns-clause-err
returns-clause-err c =
    let level = c.args.level.now in
    c.fault_of.ensures c.args.kind c.args.body.now (rw (c.deref.ensures.value ∙ c.in-Ok.ensures) at c.in-Err.ensures.refused)
