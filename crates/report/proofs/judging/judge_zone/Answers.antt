use Rattle.std.proofs.Common.{Some, sym, subst}
use Rattle.std.proofs.lemmas.Bool.{false≢true}
use Rattle.answers.specs.Grammar.{said_zone}
use Rattle.answers.specs.Body.{OneZone}
use Rattle.report.specs.declared.status.Status.TheVariants.{UnsolvableZone}
use Rattle.report.specs.Status.{Says, refuting, not_refuting}
use Rattle.report.proofs.judging.judge_zone.Goals as goal

pub returns-in-Ok-clause-says : goal.returns-in-Ok-clause-says
returns-in-Ok-clause-says g c = λ rows is.
    let ok = c.in-Ok.ensures.ok in
    subst (λ n. Says rows (Some (OneZone (said_zone c.args.zone.now))) (UnsolvableZone n)) (sym ok.1) (refuting is ok.0)

pub returns-in_default : goal.returns-in_default
returns-in_default g c = record { says = λ rows is. not_refuting is (c.in-Err.ensures.exact c.in_default.not-Memory); unsolvable = λ e. absurd (false≢true e) }
