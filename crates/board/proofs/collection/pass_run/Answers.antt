use Rattle.std.proofs.Common.{◌+◌, max, sym, ◌∙◌, ap, subst}
use Rattle.std.proofs.lemmas.Bool.{eqb-true}
use Rattle.std.proofs.lemmas.List.{nil_from_length}
use Rattle.lines.specs.Lines.{lines_in}
use Rattle.lines.proofs.Cuts.{lines_in-nil}
use Rattle.board.proofs.LevelRuns.{IsRunSoFar, run_cut, run_more, run_none, text_next}
use Rattle.board.proofs.collection.pass_run.Goals as goal

pub loop-rest-init : goal.loop-rest-init
loop-rest-init c = run_none c.args.text.now

pub loop-rest-preserved : goal.loop-rest-preserved
loop-rest-preserved c =
    let (long, first, board) = c.in-Some.ensures.some in
    subst (λ width. IsRunSoFar c.args.text.now c.in-Some.after.now width (c.loop-rest.height + 1))
    (sym (c.max-width.ensures ∙ ap (λ n. max n c.loop-rest.width) long)) (run_more _ _ _ _ c.loop-rest.invariant _ _ first board)

pub returns-in_default : goal.returns-in_default
returns-in_default c = run_cut _ _ _ _ c.loop-rest.invariant (text_next _ c.in_default.ensures.none)

pub returns : goal.returns
returns c =
    let none = ap lines_in (nil_from_length _ (eqb-true _ 0 (sym c.is_empty.ensures ∙ c.loop-rest-test.false))) ∙ lines_in-nil in
    run_cut _ _ _ _ c.loop-rest.invariant (rw none tt)
