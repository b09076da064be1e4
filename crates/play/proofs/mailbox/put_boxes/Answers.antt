use Rattle.cellset.proofs.MemberLists.{next_has, next_came, all_came}
use Rattle.play.proofs.Mailboxes.{mailbox_put}
use Rattle.play.proofs.OffGoals.{came_more, all_came_set}
use Rattle.play.proofs.mailbox.put_boxes.Goals as goal

pub loop-cell-preserved : goal.loop-cell-preserved
loop-cell-preserved g c =
    let level = c.args.board.now in
    let q = c.in-Some.cell in
    let came = c.loop-cell.yielded in
    let whole = rw c.in-Some.ensures.steps at c.loop-cell.invariant.all in
    let floor = c.requires.formed.boxes q (next_has came c.next.new.self q whole).0 in
    record {
      can_next = tt;
      is_finite = tt;
      all = next_came came c.next.new.self q whole;
      shown = rw (came_more came q, c.place.ensures) (mailbox_put level c.requires.formed.sides floor c.loop-cell.invariant.shown);
    }

pub returns : goal.returns
returns g c =
    let level = c.args.board.now in
    let came = c.loop-cell.yielded in
    let whole = rw c.in-None.ensures.steps.0 at c.loop-cell.invariant.all in
    rw (all_came_set (all_came level.shape level.boxes came whole)) at c.loop-cell.invariant.shown
