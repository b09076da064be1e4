-- The invariant says that each push out of the group is settled, or still to be entered, or left and not settled.
use Rattle.std.proofs.Common.{inl, inr, arith}
use Rattle.std.proofs.lemmas.List.Elements.{Contains-append_cases, Contains-append_left, Contains-append_right}
use Rattle.cellset.proofs.Truth.{either}
use Rattle.closure.proofs.Taken.{none_in}
use Rattle.closure.proofs.lookups.Lookups.settle.Goals as goal

pub loop-self-init : goal.loop-self-init
loop-self-init g c = grind (arith, none_in)

pub settle_here-requires-clause-place : goal.settle_here-requires-clause-place
settle_here-requires-clause-place g c = grind arith

pub loop-self-preserved : goal.loop-self-preserved
loop-self-preserved g c =
    let inv = c.loop-self.invariant in
    let entered = c.in_ok-enter.ensures in
    let here = c.in_ok-settle_here.ensures.onward in
    let same = c.in_ok-settle_here.ensures.place in
    let add = rw c.all.ensures at c.in_ok-extend_from_slice.ensures.items in
    let are = entered.ready.are in
    record {
      ready = record {
        are = record { buckets = are.buckets; place = rw same are.place; free = are.free; region = are.region; away = here.settling.away.extent; here = here.settling.here.extent };
        boxes = rw same entered.ready.boxes;
        free = entered.ready.free;
        whole = entered.ready.whole;
        settling = here.settling;
      };
      only = λ push h. either (Contains-append_cases c.loop-self.self.left.items c.settle_here.new.self.here.pushes push (rw (add, entered.left) at h))
          (inv.only push)
          (λ new. ((here.settling.here.out push new).0, c.in_ok-settle_here.ensures.rest push new));
      all = λ push out. either (inv.all push out)
          (λ left. inl (rw (add, entered.left) (Contains-append_left _ c.settle_here.new.self.here.pushes push left)))
          (λ rest. either rest
          (λ away. either (entered.kept c.if-branch.true push away)
          (λ still. inr (here.away.kept push still))
          (λ came. either (here.here.kept push came) (λ stays. inl (rw (add, entered.left) (Contains-append_right c.loop-self.self.left.items _ push stays))) (λ settled. inr (inr settled))))
          (λ settled. inr (inr settled)));
    }

pub loop-self-smaller : goal.loop-self-smaller
loop-self-smaller g c = grind arith

pub returns-clause-rest : goal.returns-clause-rest
returns-clause-rest g c =
    let inv = c.loop-self.invariant in
    let entered = c.in_ok-enter.ensures in
    let over = rw c.if-branch.false at entered.fewer in
    let boxes = c.requires.task.boxes in
    record {
      only = λ push h. let known = inv.only push (rw entered.left at h) in (known.0, λ covered. known.1 (rw boxes covered));
      all = λ push out. either (inv.all push out)
          (λ left. inl (rw entered.left left))
          (λ rest. either rest (λ away. absurd (over push away)) (λ settled. inr (rw boxes at settled)));
    }
