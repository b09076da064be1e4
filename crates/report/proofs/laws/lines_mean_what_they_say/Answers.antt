use Rattle.std.proofs.Common.{◌≡◌, length, subst}
use Rattle.report.specs.Printed.{AreUnsolvable}
use Rattle.report.proofs.OneReport.{meant_in}
use Rattle.report.proofs.laws.lines_mean_what_they_say.Goals as goal

pub returns-clause-status : goal.returns-clause-status
returns-clause-status c = λ lt at text summary report before rows answer status line. meant_in report before rows answer status line

pub returns-clause-unsolvable : goal.returns-clause-unsolvable
returns-clause-unsolvable c = λ lt at text summary report levels are.
    subst (λ ls. AreUnsolvable ls text) (c.lines_have_one_list_of_levels.ensures report.are.levels levels _ report.are.levels_are are) report.lines.unsolvable

pub returns-clause-lines : goal.returns-clause-lines
returns-clause-lines c = λ lt at text summary report levels entries are spells.
    let same : report.are.levels ≡ levels = c.lines_have_one_list_of_levels.ensures report.are.levels levels _ report.are.levels_are are in
    let spelled = rw same at report.are.answers_are in
    let read : report.are.entries ≡ entries = c.texts_have_one_reading.ensures.same at (length levels) report.are.entries entries spelled spells in
    rw read at (rw same at report.lines)
