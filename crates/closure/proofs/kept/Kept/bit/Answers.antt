use Rattle.std.proofs.Common.{◌≡◌, ◌+◌, ◌-◌, ◌*◌, ◌/◌, ◌%◌, ◌<◌, length, slice_index, refl, ◌∙◌, arith}
use Rattle.std.proofs.lemmas.Grind.{get_or_default_zero}
use Rattle.std.proofs.lemmas.Nat.Bits.{shr_and_one}
use Rattle.closure.specs.Kept.{rows_of}
use Rattle.closure.proofs.KeptRows.{row_before}
use Rattle.closure.proofs.kept.Kept.bit.Goals as goal

pub returns : goal.returns
returns c =
    let region = c.args.region in
    let cell = c.args.cell in
    let words = c.args.self.now.words.items in
    let parts = c.args.self.now.parts in
    let row = cell.row - region.first in
    let at = region.at + (row * parts + cell.column / 64) in
    let there = c.requires.there in
    let column = c.requires.column in
    let (from, to) = c.requires.row in
    let before = row_before row (rows_of region) parts (cell.column / 64) (omega arith) (omega arith) in
    let lt : at < length words = omega arith in
    let read : c.index.result.now ≡ slice_index words at =
    (rw (c.row.ensures, c.column.ensures) at c.index.ensures) ∙ get_or_default_zero words at c.index.result.now lt in
    rw (read, c.column-2.ensures, shr_and_one (slice_index words at) (cell.column % 64)) refl
