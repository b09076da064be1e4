use Rattle.sokoaudit_c.proofs.Bodies.{no_fault}
use Rattle.sokoaudit_c.proofs.judge.bodies_without_end_are_judged.Goals as goal

pub returns : goal.returns
returns c = λ level kind body none fault.
    let (levels, line, why, first) = fault in
    no_fault c.lines_have_one_list_of_levels.ensures c.texts_have_one_reading.ensures.refused level kind body line why none levels first
