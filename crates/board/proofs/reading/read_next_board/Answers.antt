-- The tests of `fill` leave one fault, an open room, and the test of the region's edge decides that.
use Rattle.std.proofs.Common.{inr}
use Rattle.std.proofs.lemmas.Result.{err_from_is_err_and}
use Rattle.board.specs.Legal.{IsOpen}
use Rattle.board.specs.Parts.{level_in}
use Rattle.board.proofs.Verdict.{too_large}
use Rattle.board.proofs.reading.read_next_board.Goals as goal

pub returns-in_default-clause-err : goal.returns-in_default-clause-err
returns-in_default-clause-err g c = inr (rw c.text.view_is at (too_large _ _ _ c.text.invariant.0 c.text.invariant.1 c.text.invariant.2 c.in_default.ensures))

pub returns-in_err-player-clause-err : goal.returns-in_err-player-clause-err
returns-in_err-player-clause-err g c =
    let why = c.in_err-player.field-0.0 in
    let p = err_from_is_err_and c.from_residual-in_err-player.result c.from_residual-in_err-player.ensures.1 in
    rw (p.1, p.2) (inr c.in_err-player.ensures.err)

pub returns-then-is_at_edge-clause-err : goal.returns-then-is_at_edge-clause-err
returns-then-is_at_edge-clause-err g c =
    let legal = c.in_ok-player.ensures.legal in
    let found = c.in_ok-player.ensures.rows in
    let level = level_in g.S.CellSet.members c.fill.new.parts c.in_ok-player.player in
    let (at, has, edge) = c.if-is_at_edge.ensures in
    let in_room = rw (c.deref.ensures, found.region) at has in
    let on_edge = rw (c.deref.ensures, found.region_extent) at edge in
    inr (legal.size, legal.player, legal.box, legal.goals, (level, legal.parts, (at, in_room, on_edge)))

pub returns-clause-ok : goal.returns-clause-ok
returns-clause-ok g c =
    let legal = c.in_ok-player.ensures.legal in
    let found = c.in_ok-player.ensures.rows in
    let level = level_in g.S.CellSet.members c.fill.new.parts c.in_ok-player.player in
    let closed = λ (o : IsOpen level).
    c.if-is_at_edge.ensures o.0 (rw (← found.region, ← c.deref.ensures) at o.1) (rw (← found.region_extent, ← c.deref.ensures) at o.2) in
    record { size = legal.size; player = legal.player; box = legal.box; goals = legal.goals; parts = legal.parts; closed = closed }
