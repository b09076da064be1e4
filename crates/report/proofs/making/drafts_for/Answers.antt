use Rattle.report.proofs.MadeRecords.{made_below}
use Rattle.report.proofs.making.drafts_for.Goals as goal

pub returns-in-Ok-clause-ok : goal.returns-in-Ok-clause-ok
returns-in-Ok-clause-ok c =
    let found = c.in_ok-found.found.items in
    let made = c.in-Ok.ensures in
    let all = rw c.deref.ensures.value at made.1 in
    made_below c.args.text.now found made.0 c.in-Ok.drafts.items c.requires c.in_ok-found.ensures.ok c.in_ok-found.ensures.few all made.2
