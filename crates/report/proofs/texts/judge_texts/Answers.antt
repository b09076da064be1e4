use Rattle.std.proofs.Common.{◌≡◌, refl}
use Rattle.report.specs.Report.{AreStatuses}
use Rattle.report.specs.Summary.{summary_of}
use Rattle.report.proofs.Errors.{first_by}
use Rattle.report.proofs.Statuses.{report_by}
use Rattle.report.proofs.texts.judge_texts.Goals as goal

pub returns-clause-first : goal.returns-clause-first
returns-clause-first c =
    let lt = c.args.levels.now in
    let at = c.args.answers.now in
    let laws = c.texts_have_one_report.ensures in
    first_by lt at (λ told. AreStatuses lt at told.0.items × (told.1 ≡ summary_of told.0.items))
    (λ told e are. laws.no_error lt at _ _ e (report_by lt at told.0.items _ told.1 are.0 refl are.1))
    (laws.error lt at) c.statuses_in.result c.statuses_in.ensures.ok c.statuses_in.ensures.refused
