use Rattle.std.proofs.Common.{ap, ◌∙◌}
use Rattle.report.specs.Summary.{status_of}
use Rattle.sokoaudit_c.specs.Outcome.{outcome_of_report}
use Rattle.sokoaudit_c.proofs.Entries.{are_right, spell_report}
use Rattle.sokoaudit_c.proofs.verdicts.sokoaudit_lines.Goals as goal

pub returns-in-Ok-clause-done : goal.returns-in-Ok-clause-done
returns-in-Ok-clause-done c _ =
    let statuses = c.in-Ok.statuses.items in
    let are = c.in-Ok.ensures.ok.0 in
    let numbers = c.in-Ok.ensures.ok.1 in
    let holds = rw c.deref.ensures.value at c.put_lines.ensures in (
      statuses,
      are,
      holds,
      are_right c.args.levels.now c.args.answers.now statuses are c.args.lines.now c.put_lines.new.lines holds,
      c.of_report.ensures ∙ ap (outcome_of_report 0) numbers,
      c.into.ensures ∙ (c.exit_status.ensures.value ∙ ap status_of numbers),
    )

pub returns-in-Ok-clause-printed : goal.returns-in-Ok-clause-printed
returns-in-Ok-clause-printed c _ =
    let statuses = c.in-Ok.statuses.items in
    let are = c.in-Ok.ensures.ok.0 in
    let holds = rw c.deref.ensures.value at c.put_lines.ensures in
    spell_report c.args.levels.now c.args.answers.now statuses are c.args.lines.now c.put_lines.new.lines holds c.texts_have_one_report.ensures.same
    c.reports_can_be_read_back.ensures.line
