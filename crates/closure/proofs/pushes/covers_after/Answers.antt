use Rattle.closure.proofs.{GroupPushes.covers_result}
use Rattle.certificates.specs.CellLists.{cells_in}
use Rattle.closure.proofs.pushes.covers_after.Goals as goal

pub is_inside-requires : goal.is_inside-requires
is_inside-requires g c = record {
  tables = c.requires.tables;
  group = c.requires.group;
  off = λ q has. c.requires.off q (c.are_after.ensures.there c.if-are_after.true q (rw c.boxes.ensures has));
  cell = (c.requires.tables.formed.room c.args.push.from c.requires.room).0;
}

pub returns-then-are_after : goal.returns-then-are_after
returns-then-are_after g c = λ yes.
    let after = c.are_after.ensures in
    let inside = c.is_inside.ensures c.requires.room (rw c.boxes.ensures at (after.left c.if-are_after.true)) in
    covers_result c.args.tables.now c.requires.tables c.args.group (cells_in c.args.boxes.now) c.args.push
    (λ q has. after.there c.if-are_after.true q (rw c.boxes.ensures has)) (inside.0 yes)
