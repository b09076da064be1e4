-- The mailbox shows the start of the level, so no letter played is progress of the empty text (`progress_start` in `Replays.antt`). Then the
-- letters of all lines are progress too, or one of them is the first that fails. At the end the mailbox shows the boxes of the last state,
-- so the count of boxes off the goals is that state's. With none the text solves the level (`solves_end`), otherwise it is unsolved
-- (`unsolved_end`).
use Rattle.std.proofs.Common.{◌≡◌, [], ap, arith}
use Rattle.std.proofs.lemmas.Result.{err_from_is_err_and}
use Rattle.play.specs.Spelling.{joined}
use Rattle.play.proofs.Replays.{progress_start, fails_first, solves_end, unsolved_end}
use Rattle.play.proofs.solution.play_all.Goals as goal

pub play_lines-requires : goal.play_lines-requires
play_lines-requires g c =
    let level = c.args.board.now in
    let shown = rw (← c.as_mut_slice-mailbox.ensures.value) at c.in-Ok.ensures.shown in
    let none : c.begin-run.result.tally.moves ≡ 0 = ap (λ r. r.tally.moves) c.begin-run.ensures in
    record {
      under_way = (
        level,
        [],
        progress_start level c.as_mut_slice-mailbox.result.now c.player.result c.begin-run.result c.in-Ok.ensures.formed shown c.player.ensures.value
            c.begin-run.ensures,
      );
      masked = rw c.as_mut_slice-mailbox.ensures.value c.in-Ok.ensures.masked;
      room = omega arith;
    }

pub boxes_off_goals-boxes-requires : goal.boxes_off_goals-boxes-requires
boxes_off_goals-boxes-requires g c =
    let level = c.args.board.now in
    let shown = rw (← c.as_mut_slice-mailbox.ensures.value) at c.in-Ok.ensures.shown in
    let first =
    progress_start level c.as_mut_slice-mailbox.result.now c.player.result c.begin-run.result c.in-Ok.ensures.formed shown c.player.ensures.value
    c.begin-run.ensures in
    let last = c.in_ok-play_lines.ensures.ok level [] first in
    (last.state.boxes, last.shown, last.as_many)

pub returns-in_err-play_lines-clause-exact : goal.returns-in_err-play_lines-clause-exact
returns-in_err-play_lines-clause-exact g c =
    let level = c.args.board.now in
    let shown = rw (← c.as_mut_slice-mailbox.ensures.value) at c.in-Ok.ensures.shown in
    let first =
    progress_start level c.as_mut_slice-mailbox.result.now c.player.result c.begin-run.result c.in-Ok.ensures.formed shown c.player.ensures.value
    c.begin-run.ensures in
    let p = err_from_is_err_and c.from_residual.result c.from_residual.ensures.1 in
    rw (p.1, p.2) (λ _. fails_first level c.as_mut_slice-mailbox.result.now c.begin-run.result
    (joined c.args.lines.now) c.in_err-play_lines.field-0.0 first c.in_err-play_lines.ensures.err)

pub returns-then-boxes-gt0-clause-exact : goal.returns-then-boxes-gt0-clause-exact
returns-then-boxes-gt0-clause-exact g c =
    let level = c.args.board.now in
    let shown = rw (← c.as_mut_slice-mailbox.ensures.value) at c.in-Ok.ensures.shown in
    let first =
    progress_start level c.as_mut_slice-mailbox.result.now c.player.result c.begin-run.result c.in-Ok.ensures.formed shown c.player.ensures.value
    c.begin-run.ensures in
    let last = c.in_ok-play_lines.ensures.ok level [] first in
    let off = c.boxes_off_goals-boxes.ensures last.state.boxes last.shown last.as_many in
    λ _. unsolved_end level (joined c.args.lines.now) c.play_lines.new.mailbox c.play_lines.new.run last c.boxes_off_goals-boxes.result off c.if-boxes-gt0.true

pub returns-clause-found : goal.returns-clause-found
returns-clause-found g c =
    let level = c.args.board.now in
    let shown = rw (← c.as_mut_slice-mailbox.ensures.value) at c.in-Ok.ensures.shown in
    let first =
    progress_start level c.as_mut_slice-mailbox.result.now c.player.result c.begin-run.result c.in-Ok.ensures.formed shown c.player.ensures.value
    c.begin-run.ensures in
    let last = c.in_ok-play_lines.ensures.ok level [] first in
    let off = c.boxes_off_goals-boxes.ensures last.state.boxes last.shown last.as_many in
    solves_end level (joined c.args.lines.now) c.play_lines.new.mailbox c.play_lines.new.run last c.boxes_off_goals-boxes.result off (omega arith)
