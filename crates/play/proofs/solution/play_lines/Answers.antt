-- The invariant says that the letters of the lines so far led from the first mailbox to this one, in at most as many moves as these lines
-- have bytes. A line that is played makes them more by its own letters (`Texts.antt`, `Replays.antt`). A line that fails makes all lines
-- fail at the same letter, because the letters before it are a part of all letters. There is room for a move per byte of all lines, so
-- there is room for the next line.
use Rattle.std.proofs.Common.{ℕ, List, [], ◌++◌, ◌+◌, length, get_or, take, drop, take_all, ◌∙◌, ap, arith, length-append}
use Rattle.std.specs.Borrow.{Bor}
use Rattle.std.proofs.lemmas.Result.{err_from_is_err_and}
use Rattle.play.specs.Spelling.{letters, joined}
use Rattle.play.proofs.Texts.{line_letters_more, line_letters_around, joined_more, joined_around}
use Rattle.play.proofs.Replays.{under_way_then, continues_then, fault_then, fault_before}
use Rattle.play.proofs.solution.play_lines.Goals as goal

abbrev none : Bor (List ℕ)
none = record { ref_ptr = (0, 0); now = [] }

pub play_line-requires-clause-room : goal.play_line-requires-clause-room
play_line-requires-clause-room c =
    let i = c.loop-line.line-index in
    let lines = c.args.lines.now in
    let before = joined (take i lines) in
    let line = (get_or lines i none).now in
    let whole = ap length (joined_around lines {i = i} none (omega arith)) ∙ length-append (before ++ line) (joined (drop (i + 1) lines)) in
    grind (arith, length-append)

pub returns-in_err-play_line-clause-err : goal.returns-in_err-play_line-clause-err
returns-in_err-play_line-clause-err c =
    let i = c.loop-line.line-index in
    let lines = c.args.lines.now in
    let done = letters (joined (take i lines)) in
    let line = letters (get_or lines i none).now in
    let rest = letters (joined (drop (i + 1) lines)) in
    let fault = c.in_err-play_line.field-0.0 in
    let behind = fault_then line fault c.loop-line.invariant.continues c.in_err-play_line.ensures.err in
    let whole = fault_before c.args.mailbox.now c.args.run.now (done ++ line) rest fault behind in
    let p = err_from_is_err_and c.from_residual.result c.from_residual.ensures.1 in
    rw (p.1, p.2, line_letters_around lines i none (omega arith)) whole

pub loop-line-preserved : goal.loop-line-preserved
loop-line-preserved c =
    let i = c.loop-line.line-index in
    let lines = c.args.lines.now in
    let done = letters (joined (take i lines)) in
    let line = letters (get_or lines i none).now in
    let more = continues_then c.loop-line.invariant.continues c.in_ok-play_line.ensures.ok in
    let longer = ap length (joined_more lines none (omega arith)) ∙ length-append (joined (take i lines)) (get_or lines i none).now in
    record {
      moves = let m = c.loop-line.invariant.moves in let n = c.in_ok-play_line.ensures.moves in omega arith;
      continues = rw (line_letters_more lines i none (omega arith)) more;
    }

pub returns-clause-ok : goal.returns-clause-ok
returns-clause-ok c = rw (take_all c.loop-line.line-index c.args.lines.now (omega arith)) at c.loop-line.invariant.continues

pub play_line-requires-clause-under_way : goal.play_line-requires-clause-under_way
play_line-requires-clause-under_way c = under_way_then c.loop-line.invariant.continues c.requires.under_way
