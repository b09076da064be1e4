use Rattle.std.proofs.Common.{[], refl, arith}
use Rattle.cellset.specs.Cell.{cell_at}
use Rattle.std.proofs.lemmas.List.{get_or_read}
use Rattle.reach.proofs.bit_rows.are_empty.Goals as goal

pub returns-then-any : goal.returns-then-any
returns-then-any g c =
    let y = c.loop-y.y in
    let some = c.if-any.ensures.some refl in
    (cell_at some.0 y, rw (get_or_read c.args.rows.now y _ (omega arith) c.index-rows-y.is []) at some.1)
