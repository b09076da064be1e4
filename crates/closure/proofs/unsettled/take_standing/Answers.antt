use Rattle.std.proofs.Common.{◌≡◌, get_or, ◌∙◌, inl, inr, arith}
use Rattle.cellset.proofs.Truth.{either}
use Rattle.closure.proofs.Lists.{no_push}
use Rattle.closure.proofs.unsettled.take_standing.Goals as goal

pub loop-at-preserved-then-has : goal.loop-at-preserved-then-has
loop-at-preserved-then-has c =
    let inv = c.loop-at.invariant in
    let taken = c.take_at-push.ensures in
    let stands = c.has.ensures in
    let on = c.if-has.true in
    record {
      within = grind arith;
      extent = taken.extent ∙ inv.extent;
      kept = λ p was. either (inv.kept p was) (λ there. either (taken.kept p there) inl (λ is.
          let same : p ≡ get_or c.all-in-loop-at.result.now c.loop-at.at no_push = is ∙ rw c.all-in-loop-at.ensures (taken.value no_push) in
          inr (rw same (stands.0 on)))) inr;
      only = λ p has. inv.only p (taken.only p has);
      fewer = grind arith;
      none = λ i d low stands. inv.none i d low (rw (taken.before i d low) at stands);
    }
