use Rattle.std.proofs.Common.{sym, ap, ◌∙◌, inl, inr, ⊎_elim}
use Rattle.report.specs.Audit.{error_of}
use Rattle.report.specs.declared.fault.AuditError.{AuditError}
use Rattle.report.specs.declared.fault.DeadError.TheVariants.{Audit}
use Rattle.sokoaudit_c.specs.Outcome.{outcome_of_answers, outcome_of_error}
use Rattle.sokoaudit_c.specs.declared.outcome.Outcome.{Outcome}
use Rattle.sokoaudit_c.proofs.RecordPlaces.{as_many, records_in, text_within}
use Rattle.sokoaudit_c.proofs.records.sokoaudit_records.Goals as goal

pub put_spans-requires : goal.put_spans-requires
put_spans-requires c =
    let (entries, spelled, are) = c.in-Ok.ensures.found in
    rw c.deref.ensures.value (text_within c.args.answers.now spelled.version spelled.header _ c.in-Ok.ensures.places)

pub returns-in-Ok-clause-done : goal.returns-in-Ok-clause-done
returns-in-Ok-clause-done c _ =
    let (entries, spelled, are) = c.in-Ok.ensures.found in
    let held = rw (← c.deref.ensures.value) at are in (
      entries,
      spelled,
      records_in c.args.answers.now spelled.version spelled.header c.deref.result.now (rw (← c.deref.ensures.value) at c.in-Ok.ensures.places) entries _ _ held
          c.put_spans.ensures,
      c.of_answers.ensures ∙ ap (outcome_of_answers 0) (c.len.ensures ∙ sym c.deref.ensures.len ∙ as_many c.deref.result.now entries held),
    )

pub returns-in-Ok-clause-first : goal.returns-in-Ok-clause-first
returns-in-Ok-clause-first c = λ fault first. absurd (c.in-Ok.ensures.refused fault first)

pub returns-in-Err-clause-first : goal.returns-in-Err-clause-first
returns-in-Err-clause-first c = λ fault first.
    let outcome : AuditError → Outcome = λ e. outcome_of_error (Audit e) in
    ⊎_elim (λ none. inl (c.of_error.ensures ∙ ap outcome (c.from.ensures ∙ ap error_of none)))
    (λ same. inr (c.of_error.ensures ∙ ap outcome (c.from.ensures ∙ ap error_of same)))
    (c.in-Err.ensures.refused fault first)
