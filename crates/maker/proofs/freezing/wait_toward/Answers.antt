use Rattle.std.proofs.Common.{[], ◌∷◌, sym, ◌∙◌, inl, inr}
use Rattle.std.proofs.lemmas.List.Elements.{Contains-append_left, Contains-push, Contains-push_cases}
use Rattle.cellset.proofs.Truth.{either}
use Rattle.maker.proofs.freezing.wait_toward.Goals as goal

pub returns-then-contains-clause-listed : goal.returns-then-contains-clause-listed
returns-then-contains-clause-listed g c = λ q h.
    either (Contains-push_cases c.args.work.now.items c.in-Some.next q (rw c.push_reserved.ensures.items at h))
    (λ old. inl old)
    (λ here. inr (rw here at (sym c.contains.ensures ∙ c.if-contains.true)))

pub returns-then-contains-clause-waiting : goal.returns-then-contains-clause-waiting
returns-then-contains-clause-waiting g c = λ q h. rw c.push_reserved.ensures.items (Contains-append_left c.args.work.now.items (c.in-Some.next ∷ []) q h)

pub returns-then-contains-clause-here : goal.returns-then-contains-clause-here
returns-then-contains-clause-here g c = λ _.
    rw (c.push_reserved.ensures.items, ← c.in-Some.ensures.1) (Contains-push c.args.work.now.items c.in-Some.next)
