-- A group with a box on the trap needs no look (`trapped_pushes`). The invariant says that the list covers the pushes of each box so far out
-- of the group. Every push out of the group moves one of its boxes, so after the loop the list
-- covers them all (`covered_each_box`). The result false claims nothing.
use borrow.Author.Count.{below_more}
use Rattle.std.proofs.Common.{ap, refl}
use Rattle.certificates.specs.CellLists.{cell_no, cells_in}
use Rattle.closure.specs.{GroupPushes.CoversFrom, Groups.list_of, Groups.position_at}
use Rattle.closure.proofs.GroupPushes.{covered_each_box, held_box, trapped_pushes}
use Rattle.closure.proofs.pushes.are_pushes_hinted.Goals as goal

pub returns : goal.returns
returns g c = λ _.
    let level = c.args.tables.now.board.now in
    let groups = c.args.tables.now.groups in
    covered_each_box level (list_of groups) (position_at level groups c.args.group) c.boxes-boxes.result.now c.loop-number.number c.loop-number-test.false
    (ap cells_in c.boxes-boxes.ensures) c.loop-number.invariant.covered

pub returns-then-is_trapped : goal.returns-then-is_trapped
returns-then-is_trapped g c = λ _.
    let on = c.if-is_trapped.ensures in
    trapped_pushes c.args.tables.now c.requires.tables c.args.group c.requires.group on.0 (rw c.boxes-boxes.ensures at on.1) on.2

pub loop-number-preserved-then-is_none : goal.loop-number-preserved-then-is_none
loop-number-preserved-then-is_none g c =
    let level = c.args.tables.now.board.now in
    let groups = c.args.tables.now.groups in
    let box = c.pushed_box-pushed.ensures in
    record {
      covered = below_more (λ i. CoversFrom level (list_of groups) (position_at level groups c.args.group) (cell_no c.boxes-boxes.result.now i)) c.loop-number.number
          c.loop-number.invariant.covered (rw (box.same.0, box.same.1, box.same.2) at (held_box c.args.tables.now c.requires.tables c.pushed_box-pushed.result box.is (c.if-is_none.ensures refl) (list_of groups)));
    }

pub loop-number-preserved : goal.loop-number-preserved
loop-number-preserved g c =
    let level = c.args.tables.now.board.now in
    let groups = c.args.tables.now.groups in
    let same = c.pushed_box-pushed.ensures.same in
    let after = c.is_hinted_each_way.ensures in
    record {
      covered = below_more (λ i. CoversFrom level (list_of groups) (position_at level groups c.args.group) (cell_no c.boxes-boxes.result.now i)) c.loop-number.number
          c.loop-number.invariant.covered (rw (same.0, same.1, same.2) at (after c.if-not-is_hinted_each_way.false));
    }
