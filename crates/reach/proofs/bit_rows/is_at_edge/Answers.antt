-- A cell is at the edge if its row is the first or the last one, or its column is. The first two tests look at these rows: if one of them
-- has a bit, the cell of the bit is at the edge. `sides` has the bits of the first and the last column and no other, so the last test
-- finds a cell of any row in one of these columns. If all tests fail, no cell is at the edge. The grid has a row, and there is one row
-- more than that, so both rows are in bounds.
use Rattle.std.proofs.Common.{◌<◌, [], length, refl, inl, inr, arith}
use Rattle.std.proofs.lemmas.List.{get_or_read}
use Rattle.cellset.specs.Cell.{cell_at}
use Rattle.cellset.proofs.Truth.{either}
use Rattle.reach.proofs.Lines.{none_in_zeros}
use Rattle.reach.proofs.bit_rows.is_at_edge.Goals as goal

pub returns-then-any : goal.returns-then-any
returns-then-any g c =
    let rows = c.args.rows.now in
    let some = c.if-any.ensures.some refl in
    let inside : 1 < length rows = omega arith in
    (cell_at some.0 1, rw (get_or_read rows 1 _ inside c.index-rows-1.is []) at some.1, inl refl)

pub returns-then-any-2 : goal.returns-then-any-2
returns-then-any-2 g c =
    let rows = c.args.rows.now in
    let some = c.if-any-2.ensures.some refl in
    let inside : c.height.result < length rows = omega arith in (
      cell_at some.0 c.height.result,
      rw (get_or_read rows c.height.result _ inside c.index-rows-height.is []) at some.1,
      inr (inl c.height.ensures.value),
    )

pub returns : goal.returns
returns g c = grind (arith, get_or_read, either, none_in_zeros)
