use Rattle.std.proofs.Common.{inl, inr, sym, ◌∙◌, subst}
use Rattle.cellset.proofs.Truth.{either}
use Rattle.closure.specs.Open.{IsThat}
use Rattle.closure.proofs.open.Open.take.Goals as goal
use Rattle.closure.proofs.open.Open.take.Goals.{After-take_at-push}

-- what was taken is that push
is_that : (c : After-take_at-push) → IsThat c.args.from c.args.dir c.take_at-push.result
is_that c = subst (IsThat c.args.from c.args.dir) (sym (c.take_at-push.ensures.value c.take_at-push.result)) (c.in-Some.ensures.1 c.take_at-push.result)

pub returns-in-Some-clause-kept : goal.returns-in-Some-clause-kept
returns-in-Some-clause-kept c = λ p has. either (c.take_at-push.ensures.kept p has) inl (λ same. inr (subst (IsThat c.args.from c.args.dir) (sym same) (is_that c)))

pub returns-in-Some-clause-none : goal.returns-in-Some-clause-none
returns-in-Some-clause-none c = λ p has that.
    let is = is_that c in
    c.take_at-push.ensures.none p has (record { cell = that.cell ∙ sym is.cell; way = that.way ∙ sym is.way })
