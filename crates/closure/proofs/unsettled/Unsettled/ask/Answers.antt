-- If a box of the group isn't there, it covers the result of no push but those that lead to that box's cell (`OpenPushes.antt`).
use Rattle.cellset.proofs.{Members.not_both}
use Rattle.closure.proofs.OpenPushes.{covering_off, more_none, open_in}
use Rattle.closure.proofs.unsettled.Unsettled.ask.Goals as goal

pub returns-in-More-clause-found : goal.returns-in-More-clause-found
returns-in-More-clause-found g c =
    let task = c.args.task.now in
    let is = c.requires.task in
    let misses = rw (c.boxes-kept.ensures, c.requires.boxes) at c.in-More.ensures in (
      λ push has. more_none task is c.args.group c.requires.group push (open_in task is push (c.requires.away.out push has).0) misses,
      λ push has. more_none task is c.args.group c.requires.group push (open_in task is push (c.requires.here.out push has).0) misses,
    )

pub settle_ahead-requires : goal.settle_ahead-requires
settle_ahead-requires g c = record {
  task = c.requires.task;
  group = c.requires.group;
  off = rw c.boxes-kept.ensures at c.if-not-is_trapped.ensures;
  misses = rw (c.boxes-kept.ensures, c.requires.boxes) at c.in-One.ensures;
  away = c.requires.away;
  here = c.requires.here;
}

pub returns-else-not-is_trapped-clause-found : goal.returns-else-not-is_trapped-clause-found
returns-else-not-is_trapped-clause-found g c =
    let task = c.args.task.now in
    let is = c.requires.task in
    let on = c.if-not-is_trapped.ensures in
    let trap = task.tables.now.trap.members in
    let box = rw c.boxes-kept.ensures at on.1 in (
      λ push has covers. not_both trap on.0 on.2 (covering_off task is push (c.requires.away.out push has).1 c.args.group covers on.0 box),
      λ push has covers. not_both trap on.0 on.2 (covering_off task is push (c.requires.here.out push has).1 c.args.group covers on.0 box),
    )
