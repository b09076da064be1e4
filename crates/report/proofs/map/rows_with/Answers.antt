use Rattle.std.proofs.Common.{◌≡◌, ◌<◌, ap, arith}
use Rattle.report.proofs.MapRows.{room_for_row}
use Rattle.report.proofs.map.rows_with.Goals as goal

pub push_row-requires-clause-room : goal.push_row-requires-clause-room
push_row-requires-clause-room g c =
    let high = ap (λ e. e.height) c.shape-shape.ensures.value in
    let above : c.loop-row.row < c.args.board.now.shape.height = omega arith in
    room_for_row c.args.board.now (g.S.CellSet.members c.args.dead.now) c.loop-row.row _ c.loop-row.text.items c.loop-row.invariant.text above
    c.loop-row.invariant.capacity

pub loop-row-preserved : goal.loop-row-preserved
loop-row-preserved g c = record { text = grind arith; capacity = rw c.push_row.ensures.capacity c.loop-row.invariant.capacity }

pub returns : goal.returns
returns g c =
    let high = ap (λ e. e.height) c.shape-shape.ensures.value in
    let all : c.loop-row.row ≡ c.args.board.now.shape.height = omega arith in
    rw all at c.loop-row.invariant.text
