use Rattle.std.proofs.Common.{◌∙◌, sym, arith}
use Rattle.std.specs.Prelude.{map}
use Rattle.answers.specs.Reading.{entry_of}
use Rattle.board.specs.Levels.{AreLevelsOf}
use Rattle.board.specs.Lines.{lines_in, without_mark}
use Rattle.report.proofs.Splits.{spells_records}
use Rattle.report.proofs.texts.statuses_in.Goals as goal

pub judge_levels-told-requires-clause-rise : goal.judge_levels-told-requires-clause-rise
judge_levels-told-requires-clause-rise c =
    let spelled = spells_records c.args.answers.now _ c.in_ok-records.records.items c.deref-2.result.now c.deref-2.ensures.value c.in_ok-records.ensures.found in
    (_, spelled.rise)

pub returns-in-Ok-clause-ok : goal.returns-in-Ok-clause-ok
returns-in-Ok-clause-ok c =
    let same = sym c.deref.ensures.value in
    let levels : AreLevelsOf c.deref.result.now (lines_in (without_mark c.args.levels.now)) = rw same at c.in_ok-levels.ensures.ok in
    let spelled = spells_records c.args.answers.now _ c.in_ok-records.records.items c.deref-2.result.now c.deref-2.ensures.value c.in_ok-records.ensures.found in (
      record {
        levels = c.deref.result.now;
        entries = map entry_of c.deref-2.result.now;
        short = record { levels = omega arith; answers = omega arith };
        levels_are = levels;
        few = rw same at c.in_ok-levels.ensures.few;
        answers_are = rw (c.len.ensures ∙ sym c.deref.ensures.len) at spelled;
        say = c.in-Ok.ensures.0;
        mean = c.in-Ok.ensures.1;
      },
      c.in-Ok.ensures.2,
    )
