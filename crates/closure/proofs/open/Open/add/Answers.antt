use Rattle.std.proofs.Common.{◌≡◌, length, inl, inr, sym, subst, arith}
use Rattle.std.specs.List.{Contains}
use Rattle.std.proofs.lemmas.List.Elements.{Contains-push_cases}
use Rattle.cellset.specs.Cell.{IsOn}
use Rattle.cellset.proofs.Truth.{either}
use Rattle.reach.specs.declared.pushes.Push.{Push}
use Rattle.closure.specs.Open.{IsThat}
use Rattle.closure.proofs.Numbers.{numbered_more}
use Rattle.closure.proofs.open.Open.add.Goals as goal

pub invariant_of-self-2 : goal.invariant_of-self-2
invariant_of-self-2 c =
    let push = c.args.push in
    let on = subst (λ v. IsOn v.extent push.from) (sym c.self.view_is) c.requires.on in
    let none = subst (λ v. (p : Push) → Contains v.pushes p → IsThat push.from push.dir p → ⊥) (sym c.self.view_is) (rw c.if-has.false at c.has.ensures) in
    let long : c.in_ok-number.number ≡ length c.self.inside.pushes.items = grind arith in
    rw (c.in_ok-push.ensures.items, long)
    (numbered_more c.self.inside.shape c.self.inside.pushes.items c.self.inside.numbers.items c.self.invariant push c.key_of.result on c.requires.step c.key_of.ensures.value none)

pub returns-clause-only : goal.returns-clause-only
returns-clause-only c = λ p has. either (Contains-push_cases c.self.inside.pushes.items c.args.push p (rw c.in_ok-push.ensures.items at has))
    (λ old. inl (subst (λ v. Contains v.pushes p) c.self.view_is old)) (λ same. inr (sym same))
