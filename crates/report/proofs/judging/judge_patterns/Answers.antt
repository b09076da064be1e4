use Rattle.std.proofs.Common.{Some, sym, subst}
use Rattle.std.proofs.lemmas.Bool.{false≢true}
use Rattle.answers.specs.Body.{PatternLines}
use Rattle.report.specs.declared.status.Status.TheVariants.{Unsolvable}
use Rattle.report.specs.Status.{Says, closed, not_closed}
use Rattle.report.proofs.judging.judge_patterns.Goals as goal

pub returns-in-Ok-clause-says : goal.returns-in-Ok-clause-says
returns-in-Ok-clause-says g c = λ lines are rows is.
    let ok = c.in-Ok.ensures.ok lines are in
    subst (λ n. Says rows (Some (PatternLines lines)) (Unsolvable n)) (sym ok.1) (closed is ok.0)

pub returns-in_default : goal.returns-in_default
returns-in_default g c = record {
  says = λ lines are rows is. not_closed is (c.in-Err.ensures.exact lines are c.in_default.not-Memory);
  unsolvable = λ e. absurd (false≢true e);
}
