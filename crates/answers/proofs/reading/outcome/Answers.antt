use Rattle.std.proofs.Common.{Ok, map, ap, sym, ◌∙◌}
use Rattle.std.proofs.lemmas.Result.{err_from_is_err_and}
use Rattle.answers.specs.Reading.{entry_of}
use Rattle.answers.proofs.BodyLines.{one_list}
use Rattle.answers.proofs.Outcome.{fails_by, outcome_again}
use Rattle.answers.proofs.reading.outcome.Goals as goal

pub returns-in_err-texts : goal.returns-in_err-texts
returns-in_err-texts c =
    let p = err_from_is_err_and c.from_residual.result c.from_residual.ensures.1 in
    rw (p.1, p.2) (fails_by c.args.levels c.in_err-texts.ensures.exact)

pub returns : goal.returns
returns c =
    let found = c.in_ok-texts.ensures.found in
    let one = one_list c.in_ok-texts.texts.items found.0 found.2 ∙ ap (map entry_of) (sym c.deref.ensures.value) in
    outcome_again found.1 ∙ ap Ok (one ∙ sym c.in_ok-records.ensures)
