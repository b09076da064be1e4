-- The next push goes from those away to those here if its player is in the component.
use Rattle.std.proofs.Common.{◌≡◌, get_or, ◌∙◌, inl, inr, arith}
use Rattle.cellset.proofs.Truth.{either}
use Rattle.closure.proofs.Lists.{no_push}
use Rattle.closure.proofs.unsettled.Unsettled.enter.Goals as goal

pub loop-at-preserved-in-Continue-1 : goal.loop-at-preserved-in-Continue-1
loop-at-preserved-in-Continue-1 c =
    let push = c.take_at-push.result in
    let low = c.loop-at-test.true in
    let inv = c.loop-at.invariant in
    let taken = c.take_at-push.ensures in
    let add = c.in_ok-add.ensures in
    let inside = c.in_component.ensures in
    let on = c.if-in_component.true in
    record {
      within = grind arith;
      kept = λ p was. either (inv.kept p was) (λ away. either (taken.kept p away) inl (λ is. inr (rw is add.added))) (λ before. inr (add.kept p before));
      only = λ p is. inv.only p (taken.only p is);
      out = λ i d before inside. inv.out i d before (rw (taken.before i d before) at inside);
      here = λ p is. either (add.only p is) (inv.here p)
          (λ e.
          let same : p ≡ get_or c.all-in-loop-at.result.now c.loop-at.at no_push = e ∙ rw c.all-in-loop-at.ensures (taken.value no_push) in
          (inv.only p (grind arith), rw same (inside.0 on)));
      sum = grind arith;
      extents = (taken.extent ∙ inv.extents.0, add.extent ∙ inv.extents.1);
      search = inv.search;
      inside = inv.inside;
    }
