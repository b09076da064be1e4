use Rattle.closure.proofs.Asked.{asked_on, none_each_way, open_less}
use Rattle.closure.proofs.unsettled.Unsettled.settle_ahead.Goals as goal

pub settle_toward-requires-2-clause-away : goal.settle_toward-requires-2-clause-away
settle_toward-requires-2-clause-away g c = open_less c.args.task.now _ _ c.requires.away c.settle_toward.ensures.asked.away

pub settle_toward-requires-2-clause-here : goal.settle_toward-requires-2-clause-here
settle_toward-requires-2-clause-here g c = open_less c.args.task.now _ _ c.requires.here c.settle_toward.ensures.asked.here

pub settle_toward-requires-3-clause-away : goal.settle_toward-requires-3-clause-away
settle_toward-requires-3-clause-away g c = open_less c.args.task.now _ _ (open_less c.args.task.now _ _ c.requires.away c.settle_toward.ensures.asked.away) c.settle_toward-2.ensures.asked.away

pub settle_toward-requires-3-clause-here : goal.settle_toward-requires-3-clause-here
settle_toward-requires-3-clause-here g c = open_less c.args.task.now _ _ (open_less c.args.task.now _ _ c.requires.here c.settle_toward.ensures.asked.here) c.settle_toward-2.ensures.asked.here

pub settle_toward-requires-4-clause-away : goal.settle_toward-requires-4-clause-away
settle_toward-requires-4-clause-away g c =
    let first = asked_on c.args.task.now _ _ _ c.settle_toward.ensures.asked c.settle_toward-2.ensures.asked in
    open_less c.args.task.now _ _ (open_less c.args.task.now _ _ c.requires.away first.away) c.settle_toward-3.ensures.asked.away

pub settle_toward-requires-4-clause-here : goal.settle_toward-requires-4-clause-here
settle_toward-requires-4-clause-here g c =
    let first = asked_on c.args.task.now _ _ _ c.settle_toward.ensures.asked c.settle_toward-2.ensures.asked in
    open_less c.args.task.now _ _ (open_less c.args.task.now _ _ c.requires.here first.here) c.settle_toward-3.ensures.asked.here

pub returns-clause-asked : goal.returns-clause-asked
returns-clause-asked g c =
    asked_on c.args.task.now _ _ _ (asked_on c.args.task.now _ _ _ c.settle_toward.ensures.asked c.settle_toward-2.ensures.asked)
    (asked_on c.args.task.now _ _ _ c.settle_toward-3.ensures.asked c.settle_toward-4.ensures.asked)

pub returns-clause-away : goal.returns-clause-away
returns-clause-away g c =
    let l = c.settle_toward.ensures in
    let u = c.settle_toward-2.ensures in
    let r = c.settle_toward-3.ensures in
    let d = c.settle_toward-4.ensures in
    none_each_way c.args.task.now c.args.group _ (λ push has. l.away push (u.asked.away.only push (r.asked.away.only push (d.asked.away.only push has))))
    (λ push has. u.away push (r.asked.away.only push (d.asked.away.only push has))) (λ push has. r.away push (d.asked.away.only push has)) d.away

pub returns-clause-here : goal.returns-clause-here
returns-clause-here g c =
    let l = c.settle_toward.ensures in
    let u = c.settle_toward-2.ensures in
    let r = c.settle_toward-3.ensures in
    let d = c.settle_toward-4.ensures in
    none_each_way c.args.task.now c.args.group _ (λ push has. l.here push (u.asked.here.only push (r.asked.here.only push (d.asked.here.only push has))))
    (λ push has. u.here push (r.asked.here.only push (d.asked.here.only push has))) (λ push has. r.here push (d.asked.here.only push has)) d.here
