use Rattle.std.proofs.Common.{◌≡◌, length, sym, ◌∙◌, ap, refl, arith}
use Rattle.report.proofs.Accepted.{lawful_records, no_text_error, accepted}
use Rattle.report.proofs.laws.made_answers_are_accepted.Goals as goal

pub returns-clause-no_error : goal.returns-clause-no_error
returns-clause-no_error c = λ levels_text text count error made is.
    let lawful = lawful_records 1 0 (length made.levels) made.levels made.records made.made (omega arith) (omega arith) in
    let (entries, written) = c.written_is_read.ensures.some made.records (length made.levels) lawful in
    let spelled = rw (← made.text_is) at written in
    no_text_error levels_text text made.levels entries made.collection spelled
    (λ other are. c.lines_have_one_list_of_levels.ensures made.levels other _ made.collection.levels_are are)
    (c.texts_have_one_reading.ensures.refused text (length made.levels) entries) error is

pub returns-clause-accepted : goal.returns-clause-accepted
returns-clause-accepted c = λ levels_text text report count summary made r.
    let levels : made.levels ≡ r.are.levels = c.lines_have_one_list_of_levels.ensures made.levels r.are.levels _ made.collection.levels_are r.are.levels_are in
    let lawful = lawful_records 1 0 (length made.levels) made.levels made.records made.made (omega arith) (omega arith) in
    let spelled = rw made.text_is at (rw (← levels) at r.are.answers_are) in
    let same = c.written_is_read.ensures.same made.records (length made.levels) lawful r.are.entries spelled in
    let both = accepted c.rows_have_one_board.ensures.same c.rows_have_one_board.ensures.refused c.closed_lists_have_no_fault.ensures
    c.refuting_zones_have_no_fault.ensures 1 made.levels made.records r.are.entries r.are.entries r.statuses made.made same (λ m above. refl)
    (rw levels r.are.say) in
    (both.0, ap (λ s. s.unsolvable) r.summary_is ∙ both.1 ∙ sym made.count_is)
