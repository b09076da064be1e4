use Rattle.std.proofs.Common.{arith}
use Rattle.reach.proofs.Loads.{loaded_more, row_tells}
use Rattle.reach.proofs.bit_rows.row_of.Goals as goal

pub loop-part-preserved : goal.loop-part-preserved
loop-part-preserved g c =
    let part = c.loop-part.part in
    loaded_more _ _ part c.loop-part.row c.row.result (omega arith) c.loop-part.invariant
    (row_tells (g.S.CellSet.members c.args.cells.now) c.args.y part c.row.result (omega arith) c.row.ensures.members)
