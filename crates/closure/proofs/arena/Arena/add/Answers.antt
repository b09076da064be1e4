-- Cells that are added to the boxes or the seeds leave the lines what they were, so a pattern off the grid adds no line. A new line has the
-- spans of what was added.
use Rattle.std.specs.Result.{is_ok}
use Rattle.closure.proofs.Spans.{as_it_was, kept_lines, kept_within, none_said, pushed_lines, pushed_within, some_said}
use Rattle.closure.proofs.arena.Arena.add.Goals as goal
use Rattle.closure.proofs.arena.Arena.add.Goals.{in-Room, in-Cells+in_ok-span-in-Cells+in-Some-2}

pub invariant_of-self : goal.invariant_of-self
invariant_of-self c = record { within = kept_within _ _ _ _ c.add_span.ensures.grown (as_it_was _) _ c.args.self.now.within }

pub invariant_of-self-in_default : goal.invariant_of-self-in_default
invariant_of-self-in_default c = record { within = kept_within _ _ _ _ c.in_ok-boxes.ensures.grown (as_it_was _) _ c.args.self.now.within }

pub returns-in_default-clause-added : goal.returns-in_default-clause-added
returns-in_default-clause-added c = kept_lines _ _ _ _ c.in_ok-boxes.ensures.grown (as_it_was _) _ c.args.self.now.within

pub invariant_of-self-in-Break-branch-3 : goal.invariant_of-self-in-Break-branch-3
invariant_of-self-in-Break-branch-3 c =
    record { within = kept_within _ _ _ _ c.in_ok-boxes.ensures.grown c.add_span-in-Cells.ensures.grown _ c.args.self.now.within }

pub invariant_of-self-in_default-2 : goal.invariant_of-self-in_default-2
invariant_of-self-in_default-2 c =
    record { within = kept_within _ _ _ _ c.in_ok-boxes.ensures.grown c.in_ok-span-in-Cells.ensures.grown _ c.args.self.now.within }

pub returns-in_default-2-clause-added : goal.returns-in_default-2-clause-added
returns-in_default-2-clause-added c = kept_lines _ _ _ _ c.in_ok-boxes.ensures.grown c.in_ok-span-in-Cells.ensures.grown _ c.args.self.now.within

pub invariant_of-self-2 : goal.invariant_of-self-2
invariant_of-self-2 c =
    let added = rw (c.in-Some.is, c.deref.ensures) at c.in_ok-boxes.ensures.exact in
    elim c.match-pattern.branch [
      | in-Room w ↦ rw (c.push.ensures.items, w.self-is, w.seeds-is, added.0)
          (record { within = pushed_within _ _ _ _ _ c.args.self.now.within _ added.1 _ _ (none_said _) _ (is_ok c.push.result) })
      | in-Cells+in_ok-span-in-Cells+in-Some-2 w ↦
          let listed = rw (w.in-Some-2.is, w.deref-in-Cells.ensures) at w.in_ok-span-in-Cells.ensures.exact in
          rw (c.push.ensures.items, w.self-is, w.seeds-is, added.0, listed.0)
          (record { within = pushed_within _ _ _ _ _ c.args.self.now.within _ added.1 _ _ (some_said _ _ _ listed.1) _ (is_ok c.push.result) })
    ]

pub returns-clause-added : goal.returns-clause-added
returns-clause-added c =
    let added = rw (c.in-Some.is, c.deref.ensures) at c.in_ok-boxes.ensures.exact in
    elim c.match-pattern.branch [
      | in-Room w ↦ rw (c.in_ok-push.ensures.items, w.self-is, w.seeds-is, w.in-Room.is, added.0)
          (pushed_lines _ _ _ _ _ c.args.self.now.within _ added.1 _ _ (none_said _) _)
      | in-Cells+in_ok-span-in-Cells+in-Some-2 w ↦
          let listed = rw (w.in-Some-2.is, w.deref-in-Cells.ensures) at w.in_ok-span-in-Cells.ensures.exact in
          rw (c.in_ok-push.ensures.items, w.self-is, w.seeds-is, w.in-Cells.is, added.0, listed.0)
          (pushed_lines _ _ _ _ _ c.args.self.now.within _ added.1 _ _ (some_said _ _ _ listed.1) _)
    ]
