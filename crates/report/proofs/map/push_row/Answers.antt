use Rattle.std.proofs.Common.{◌≡◌, ap, arith}
use Rattle.report.proofs.MapRows.{length_in_row, row_more, row_end}
use Rattle.report.proofs.map.push_row.Goals as goal

pub push_reserved-requires : goal.push_reserved-requires
push_reserved-requires g c = grind (arith, length_in_row)

pub loop-column-preserved : goal.loop-column-preserved
loop-column-preserved g c = grind (arith, row_more)

pub push_reserved-requires-2 : goal.push_reserved-requires-2
push_reserved-requires-2 g c = grind (arith, length_in_row)

pub returns-clause-line : goal.returns-clause-line
returns-clause-line g c =
    let dead = g.S.CellSet.members c.args.dead.now in
    let wide = ap (λ e. e.width) c.shape-shape.ensures.value in
    let all : c.loop-column.column ≡ c.args.board.now.shape.width = omega arith in
    row_end c.args.board.now dead c.args.row c.loop-column.column c.args.text.now.items c.loop-column.text.items c.push_reserved-2.new.self.items
    c.loop-column.invariant.text all c.push_reserved-2.ensures.items
