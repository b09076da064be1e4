use Rattle.std.proofs.Common.{length, arith, sym, ◌∙◌, ap}
use Rattle.std.proofs.lemmas.Bool.{eqb-true}
use Rattle.lines.proofs.Cuts.{first_shorter}
use Rattle.board.specs.Rows.{width_of}
use Rattle.board.proofs.LevelRuns.{is_next, is_run, no_run_here, rows_are}
use Rattle.board.proofs.SkippedText.{passed_line, passed_whole, passed_within}
use Rattle.board.proofs.collection.next_level.Goals as goal

pub invariant_of-level : goal.invariant_of-level
invariant_of-level c =
    let cut = c.pass_run-width.ensures in
    let rows = rows_are _ _ _ _ cut in
    (is_run _ _ _ _ cut c.if-height-gt0.true, cut.width_is ∙ ap width_of (sym rows), cut.height_is ∙ ap length (sym rows))

pub returns-then-height-gt0-clause-some : goal.returns-then-height-gt0-clause-some
returns-then-height-gt0-clause-some c = is_next _ _ _ _ c.pass_run-width.ensures _ c.loop-from.invariant c.if-height-gt0.true

pub loop-from-preserved : goal.loop-from-preserved
loop-from-preserved c =
    passed_line _ _ _ _ _ c.loop-from.invariant (no_run_here _ _ _ _ c.pass_run-width.ensures (omega arith)) c.first_line.ensures c.past_text-from-in-loop-from.ensures

pub returns-clause-none : goal.returns-clause-none
returns-clause-none c = passed_whole _ _ c.loop-from.invariant (eqb-true _ 0 (sym c.is_empty.ensures ∙ c.loop-from-test.false))

pub loop-from-smaller : goal.loop-from-smaller
loop-from-smaller c = omega (arith, first_shorter _ _ _ c.first_line.ensures, passed_within _ _ c.past_text-from-in-loop-from.ensures)
