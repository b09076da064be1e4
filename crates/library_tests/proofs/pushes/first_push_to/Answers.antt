use Rattle.std.proofs.Common.{◌≡◌, ◌&&◌, sym, ◌∙◌, ap, subst, inl, inr, arith, eq-eqb}
use Rattle.std.proofs.lemmas.Bool.{false≢true}
use Rattle.cellset.specs.declared.cell.Cell.{Cell}
use Rattle.std.proofs.lemmas.List.Elements.{Contains-push_cases}
use Rattle.cellset.specs.CellSet.{Has}
use Rattle.reach.specs.Pushes.{ArePushesOut}
use Rattle.reach.specs.declared.pushes.Push.{Push}
use Rattle.reach.proofs.PushRuns.{next_is_out, came_before, all_came}
use Rattle.library_tests.proofs.pushes.first_push_to.Goals as goal
use Rattle.library_tests.proofs.pushes.first_push_to.Goals.{After-into_iter-push-iterator}

all_pushes : (g : _) (c : After-into_iter-push-iterator g) → ArePushesOut c.args.shape (g.S.CellSet.members c.args.walls.now)
    (g.S.CellSet.members c.args.boxes.now) (Has (g.S.CellSet.members c.args.region.now)) c.into_iter-push-iterator.result
all_pushes g c = subst (ArePushesOut c.args.shape _ _ _) (sym c.into_iter-push-iterator.ensures.into_iter_gives) c.new-push-items.ensures

pub loop-push-init : goal.loop-push-init
loop-push-init g c = λ q (k, within, is). absurd (omega (arith, within))

pub returns-then-eq-clause-first : goal.returns-then-eq-clause-first
returns-then-eq-clause-first g c =
    let all = all_pushes g (goal.at.returns-then-eq-clause-first g c).After-into_iter-push-iterator in (
      next_is_out all c.loop-push.yielded c.loop-push.push-iterator c.loop-push.yielded_by c.in-Some.push c.next.new.self c.in-Some.ensures.steps,
      λ q out early. c.loop-push.invariant q (came_before all c.loop-push.yielded c.loop-push.push-iterator c.loop-push.yielded_by c.in-Some.push
          c.next.new.self c.in-Some.ensures.steps q out early),
    )

pub loop-push-preserved : goal.loop-push-preserved
loop-push-preserved g c = λ q seen to. elim (Contains-push_cases c.loop-push.yielded c.in-Some.push q seen) [
  | inl before ↦ c.loop-push.invariant q before to
  | inr here ↦
      let same : c.in-Some.push.to ≡ c.args.cell = ap (λ (p : Push). p.to) here ∙ to in
      absurd (false≢true (c.if-eq.ensures ∙ (λ i. eq-eqb _ _ (ap (λ (k : Cell). k.row) same) i && eq-eqb _ _ (ap (λ (k : Cell). k.column) same) i)))
]

pub returns-clause-only : goal.returns-clause-only
returns-clause-only g c =
    let all = all_pushes g (goal.at.returns-clause-only g c).After-into_iter-push-iterator in
    λ q out. c.loop-push.invariant q (all_came all c.loop-push.yielded c.loop-push.push-iterator c.loop-push.yielded_by c.next.new.self
    c.in-None.ensures.steps q out)
