use Rattle.std.proofs.{lemmas.Option.same_Some}
use Rattle.closure.proofs.checking.Checker.settle.Goals as goal

pub settle-requires : goal.settle-requires
settle-requires g c = record {
  task = record {
    tables = c.requires.tables;
    noted = rw c.deref.ensures.value c.requires.checker.noted;
    group = c.requires.group;
    boxes = c.boxes.ensures;
    off = rw c.boxes.ensures c.requires.off;
  };
  are = c.requires.checker.are;
}

pub returns-clause-checker : goal.returns-clause-checker
returns-clause-checker g c =
    let settled = c.in_ok-settle.ensures in
    record {
      noted = c.requires.checker.noted;
      are = settled.are;
      free = λ h is. rw (← (same_Some c.args.group h is)) (rw c.boxes.ensures at settled.free);
      rest = λ h is. rw (← (same_Some c.args.group h is)) settled.rest;
    }
