use Rattle.std.proofs.Common.{◌∙◌, ap, inr}
use Rattle.std.proofs.KnownBytes.{Appends-kept}
use Rattle.std.proofs.lemmas.Result.{err_from_is_err_and}
use Rattle.program.proofs.Printed.{bytes_of, due_as}
use Rattle.program.proofs.program.audit_files.Goals as goal

pub returns-in_err-levels-clause-due : goal.returns-in_err-levels-clause-due
returns-in_err-levels-clause-due g c =
    let p = err_from_is_err_and c.from_residual.result c.from_residual.ensures.1 in
    rw p.1 (due_as (g.F.Opener.known c.args.files.now) c.args.levels.now c.args.answers.now _ _ (p.2 ∙ c.in_err-levels.ensures.err) (λ _ _ _ _. tt))

pub returns-in-Err-clause-due : goal.returns-in-Err-clause-due
returns-in-Err-clause-due g c = inr (λ levels_text answers_text levels_is answers_is.
    let still = ap (λ known. known c.args.answers.now) c.open.ensures.same ∙ answers_is in
    c.in-Err.ensures.refused levels_text answers_text (c.in_ok-levels.ensures.bytes levels_text levels_is) (c.in_ok-answers.ensures.bytes answers_text still))

pub returns-in_err-flush-clause-due : goal.returns-in_err-flush-clause-due
returns-in_err-flush-clause-due g c =
    let p = err_from_is_err_and c.from_residual-in_err-flush.result c.from_residual-in_err-flush.ensures.1 in
    rw p.1 (due_as (g.F.Opener.known c.args.files.now) c.args.levels.now c.args.answers.now _ _ (p.2 ∙ c.in_err-flush.ensures.err.0) (λ levels_text answers_text levels_is answers_is.
    let still = ap (λ known. known c.args.answers.now) c.open.ensures.same ∙ answers_is in
    let (text, report, now) = c.in-Ok.ensures.ok levels_text answers_text (c.in_ok-levels.ensures.bytes levels_text levels_is) (c.in_ok-answers.ensures.bytes answers_text still) in
    (text, (c.in-Ok.summary, report))))

pub returns-clause-printed : goal.returns-clause-printed
returns-clause-printed g c known =
    let (levels_text, levels_is) = bytes_of _ known.0 in
    let (answers_text, answers_is) = bytes_of _ known.1 in
    let still = ap (λ known. known c.args.answers.now) c.open.ensures.same ∙ answers_is in
    let levels_left = c.in_ok-levels.ensures.bytes levels_text levels_is in
    let answers_left = c.in_ok-answers.ensures.bytes answers_text still in
    let (text, report, now) = c.in-Ok.ensures.ok levels_text answers_text levels_left answers_left in (
      text,
      Appends-kept _ _ _ text now c.flush.ensures.same,
      (levels_text, levels_is, answers_text, answers_is, c.in-Ok.summary, report, c.exit_status.ensures.value),
    )
