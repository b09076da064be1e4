-- The invariant says that the push that was found is one of those so far by a player in the region, and that none of those comes before it.
use Rattle.std.proofs.Common.{◌≡◌, Bool, true, false, ℕ, List, get_or, refl, sym, ◌∙◌, subst, arith}
use Rattle.std.specs.{Prelude.MatchBool, Prelude.MatchOption, Prelude.Option, Prelude.None, Prelude.Some, Prelude.IsTrue, Prelude.◌↔◌, List.Contains}
use Rattle.std.proofs.lemmas.{Bool.false≢true, List.Elements.All-contains_itself, Option.none-some, Option.same_Some}
use Rattle.std.proofs.lemmas.List.{get_or_default}
use Rattle.cellset.specs.CellSet.{Cells, Has}
use Rattle.reach.{specs.Pushes.PushBefore, specs.declared.pushes.Push.Push, proofs.PushOrder.push_before_itself, proofs.PushOrder.push_before_trans}
use Rattle.closure.proofs.Lists.{no_push}
use Rattle.closure.proofs.Numbered.{one_more}
use Rattle.closure.proofs.settling.least_of.Goals as goal

-- what the invariant says of the push with this number
abbrev IsAfter : List Push → Cells → Option Push → ℕ → Type 0
IsAfter pushes region first i =
    Has region (get_or pushes i no_push).player → (f : Push) × (first ≡ Some f) × (PushBefore (get_or pushes i no_push) f → ⊥)

-- whether a push comes before another one, if there is one
over : (b : Bool) (known : Option Push) (q : Push) → MatchOption known (IsTrue b) (λ f. IsTrue b ↔ PushBefore q f)
    → MatchBool b ((f : Push) → known ≡ Some f → PushBefore q f) ((f : Push) × (known ≡ Some f) × (PushBefore q f → ⊥))
over true None q is = grind (arith, none-some)
over true (Some k) q is = grind (arith, same_Some)
over false None q is = absurd (false≢true is)
over false (Some k) q is = grind (arith, false≢true)

pub loop-push-preserved-then-not-has : goal.loop-push-preserved-then-not-has
loop-push-preserved-then-not-has c = grind (arith, one_more, false≢true)

pub loop-push-preserved-then-not-is_least : goal.loop-push-preserved-then-not-is_least
loop-push-preserved-then-not-is_least c = record {
  only = c.loop-push.invariant.only;
  least = one_more (IsAfter c.args.pushes.now c.args.region.now.members c.loop-push.first) c.loop-push.push-index c.loop-push.invariant.least
      (λ _. rw c.if-not-is_least.true at (over c.is_least.result c.loop-push.first (get_or c.args.pushes.now c.loop-push.push-index no_push) c.is_least.ensures));
}

pub loop-push-preserved : goal.loop-push-preserved
loop-push-preserved c =
    let pushes = c.args.pushes.now in
    let n = c.loop-push.push-index in
    let next = get_or pushes n no_push in
    let earlier = rw c.if-not-is_least.false at (over c.is_least.result c.loop-push.first next c.is_least.ensures) in
    record {
      only = λ f same. subst (λ q. Contains pushes q × Has c.args.region.now.members q.player) (same_Some next f same)
          (All-contains_itself pushes n no_push c.loop-push-test.true, c.has.ensures.0 c.if-not-has.false);
      least = one_more (IsAfter pushes c.args.region.now.members (Some next)) n
          (λ i low inside.
          let old = c.loop-push.invariant.least i low inside in
          (next, refl, λ before. old.2 (push_before_trans (get_or pushes i no_push) next old.0 before (earlier old.0 old.1))))
          (λ _. (next, refl, push_before_itself next));
    }

pub returns-clause-least : goal.returns-clause-least
returns-clause-least c = λ p (i, lt, is) inside.
    let same = get_or_default c.args.pushes.now i no_push p lt ∙ is in
    let past = c.loop-push-test.false in
    let found = c.loop-push.invariant.least i (omega arith) (subst (λ q. Has c.args.region.now.members q.player) (sym same) inside) in
    (found.0, found.1, subst (λ q. PushBefore q found.0 → ⊥) same found.2)
