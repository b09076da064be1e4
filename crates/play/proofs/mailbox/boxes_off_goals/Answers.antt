-- The invariant says that the count is the number of boxes that are on none of the goals passed so far. A goal lies on the grid, so its
-- byte is in the mailbox, and it is `BOX` exactly if a box is on the goal (`Mailboxes.antt`). Then one box fewer is off the goals; otherwise
-- their number stays the same (`OffGoals.antt`). In the end all goals are passed. The clause is about every set of boxes that the mailbox
-- shows, and so is the invariant; the precondition names one such set, for the bounds.
use Rattle.std.proofs.Common.{rules, ◌<◌, length, get_or, sym, ◌∙◌, ap, subst}
use Rattle.cellset.proofs.MemberLists.{next_has, next_came}
use Rattle.play.specs.Mailbox.{place_of}
use Rattle.play.proofs.Places.{near_on}
use Rattle.play.proofs.Mailboxes.{box_by, no_box_by}
use Rattle.play.proofs.OffGoals.{counted_start, counted_some, counted_box, counted_none, counted_end}
use Rattle.play.proofs.mailbox.boxes_off_goals.Goals as goal

pub bounds-mailbox-place : goal.bounds-mailbox-place
bounds-mailbox-place g c =
    let level = c.args.board.now in
    let whole = rw c.in-Some.ensures.steps at c.loop-goal.invariant.all in
    let (boxes, shown, many) = c.requires in
    subst (λ n. n < length c.args.mailbox.now) (sym c.place.ensures)
    (shown.places c.in-Some.goal (near_on level.shape (next_has c.loop-goal.yielded c.next.new.self c.in-Some.goal whole).1))

pub overflow_sub-count : goal.overflow_sub-count
overflow_sub-count g c =
    let level = c.args.board.now in
    let q = c.in-Some.goal in
    let whole = rw c.in-Some.ensures.steps at c.loop-goal.invariant.all in
    let (boxes, shown, many) = c.requires in
    let near = near_on level.shape (next_has c.loop-goal.yielded c.next.new.self q whole).1 in
    let is = ap (λ n. get_or c.args.mailbox.now n 0) (sym c.place.ensures) ∙ c.if-mailbox-place-eq-BOX.true in
    counted_some level.shape level.goals boxes c.loop-goal.yielded q c.next.new.self whole c.loop-goal.count (c.loop-goal.invariant.counted boxes shown many)
    (box_by level boxes q (get_or c.args.mailbox.now (place_of q) 0) (shown.shown q near) is).1

pub loop-goal-preserved-then-mailbox-place-eq-BOX : goal.loop-goal-preserved-then-mailbox-place-eq-BOX
loop-goal-preserved-then-mailbox-place-eq-BOX g c =
    let level = c.args.board.now in
    let q = c.in-Some.goal in
    let whole = rw c.in-Some.ensures.steps at c.loop-goal.invariant.all in
    let near = near_on level.shape (next_has c.loop-goal.yielded c.next.new.self q whole).1 in
    let is = ap (λ n. get_or c.args.mailbox.now n 0) (sym c.place.ensures) ∙ c.if-mailbox-place-eq-BOX.true in
    record {
      can_next = tt;
      is_finite = tt;
      all = next_came c.loop-goal.yielded c.next.new.self q whole;
      counted = λ boxes shown many.
          counted_box level.shape level.goals boxes c.loop-goal.yielded q c.next.new.self whole c.loop-goal.count
          (c.loop-goal.invariant.counted boxes shown many) (box_by level boxes q (get_or c.args.mailbox.now (place_of q) 0) (shown.shown q near) is).1;
    }

pub loop-goal-preserved : goal.loop-goal-preserved
loop-goal-preserved g c =
    let level = c.args.board.now in
    let q = c.in-Some.goal in
    let whole = rw c.in-Some.ensures.steps at c.loop-goal.invariant.all in
    let near = near_on level.shape (next_has c.loop-goal.yielded c.next.new.self q whole).1 in
    record {
      can_next = tt;
      is_finite = tt;
      all = next_came c.loop-goal.yielded c.next.new.self q whole;
      counted = λ boxes shown many.
          counted_none level.shape level.goals boxes c.loop-goal.yielded q c.next.new.self whole c.loop-goal.count
          (c.loop-goal.invariant.counted boxes shown many)
          (no_box_by level boxes q (get_or c.args.mailbox.now (place_of q) 0) (shown.shown q near)
          (λ is. c.if-mailbox-place-eq-BOX.false (ap (λ n. get_or c.args.mailbox.now n 0) c.place.ensures ∙ is)));
    }

pub returns : goal.returns
returns g c = λ boxes shown many.
    let level = c.args.board.now in
    let whole = rw c.in-None.ensures.steps.0 at c.loop-goal.invariant.all in
    counted_end level.shape level.goals boxes c.loop-goal.yielded whole (c.loop-goal.invariant.counted boxes shown many)

pub loop-goal-init : goal.loop-goal-init
loop-goal-init g c = search (rules, counted_start)
