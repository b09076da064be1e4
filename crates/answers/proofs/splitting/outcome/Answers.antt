use Rattle.std.proofs.Common.{◌+◌, sym, ap, ◌∙◌, length, arith}
use Rattle.std.proofs.lemmas.Bool.{eqb-true}
use Rattle.bstr.proofs.lemmas.LengthLemmas.{length-lines}
use Rattle.lines.specs.Lines.{lines_in}
use Rattle.lines.proofs.Cuts.{first_shorter}
use Rattle.answers.specs.Held.{kept_after}
use Rattle.answers.specs.Reading.{records_under}
use Rattle.answers.proofs.Outcome.{has_records, outcome_after, outcome_none}
use Rattle.answers.proofs.splitting.outcome.Goals as goal

pub returns-then-is_empty-clause-gives : goal.returns-then-is_empty-clause-gives
returns-then-is_empty-clause-gives c = outcome_none _ _ (eqb-true _ 0 (sym c.is_empty.ensures ∙ c.if-is_empty.true))

pub returns-in_default-clause-gives : goal.returns-in_default-clause-gives
returns-in_default-clause-gives c =
    let below = c.first_line.result.1.now in
    outcome_after _ _ below _ c.first_line.ensures
    ∙ ap (λ o. records_under o c.args.levels (1 + length (lines_in below)) (kept_after 1 below)) (sym c.version_of.ensures ∙ c.in_default.is)

pub records_in-requires : goal.records_in-requires
records_in-requires c = omega (arith, length-lines c.first_line.result.1.now, first_shorter _ _ _ c.first_line.ensures)

pub returns-clause-gives : goal.returns-clause-gives
returns-clause-gives c =
    let below = c.first_line.result.1.now in
    let read =
    outcome_after _ _ below _ c.first_line.ensures
    ∙ ap (λ o. records_under o c.args.levels (1 + length (lines_in below)) (kept_after 1 below)) (sym c.version_of.ensures ∙ c.in-Some.is) in
    rw read c.records_in.ensures.gives

pub returns-clause-places : goal.returns-clause-places
returns-clause-places c = has_records (λ v. v.items) _ _ _ _ c.records_in.result c.first_line.ensures (sym c.version_of.ensures ∙ c.in-Some.is) c.records_in.ensures.places
