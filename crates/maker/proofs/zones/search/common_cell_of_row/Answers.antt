-- The invariant says that the cells of the row that both have lie in the parts that are still to be read. A bit that both words have is such
-- a cell, and without one the part has none.
use Rattle.std.proofs.Common.{◌+◌, ◌-◌, ◌*◌, ◌<◌, ◌≤◌, inl, inr, ap, arith}
use Rattle.std.proofs.lemmas.Bool.{cases_lt}
use Rattle.std.specs.Prelude.{bit_and, Option, None, Some, MatchOption, SomeIff}
use Rattle.cellset.specs.Cell.{IsOn}
use Rattle.cellset.specs.CellSet.{Has}
use Rattle.cellset.specs.declared.cell.Cell.{Cell}
use Rattle.cellset.specs.Shape.{Extent}
use Rattle.reach.proofs.Loads.{row_tells}
use Rattle.reach.proofs.Words.{bit_and_l, bit_and_r, bit_and_from, le_by_bits, lowest_bit, no_bit_zero}
use Rattle.maker.proofs.zones.search.common_cell_of_row.Goals as goal

pub loop-part-init : goal.loop-part-init
loop-part-init c = record { passed = λ q h there same. omega arith }

-- a cell of the grid that was read by its column and row
read_cell : (N : Type 0) (P : Cell → Type 0) (shape : Extent) (at : Cell) (result : Option Cell) → IsOn shape at → SomeIff result (IsOn shape at) at → P at
    → MatchOption result N P
read_cell N P shape at None on is p = absurd (is on)
read_cell N P shape at (Some d) on is p = rw is.1 p

pub returns-then-bits-ne0 : goal.returns-then-bits-ne0
returns-then-bits-ne0 c =
    let cells = c.args.cells.now.members in
    let others = c.args.others.now.members in
    let mine = c.row.result in
    let theirs = c.row-in-loop-part.result in
    let small : bit_and mine theirs ≤ mine = le_by_bits _ _ (λ k b. bit_and_l mine theirs k b) in
    let (low, bit) = lowest_bit (bit_and mine theirs) (omega arith) (omega arith) in
    let here = (row_tells cells c.args.row c.loop-part.part mine (omega arith) c.row.ensures _).0 (bit_and_l mine theirs _ bit) in
    let there = (row_tells others c.args.row c.loop-part.part theirs (omega arith) c.row-in-loop-part.ensures _).0 (bit_and_r mine theirs _ bit) in
    read_cell _ (λ q. Has cells q × Has others q) c.shape-shape.result _ c.cell.result (rw c.shape-shape.ensures (c.requires.on _ here.1)) c.cell.ensures (here.1, there.1)

pub loop-part-preserved : goal.loop-part-preserved
loop-part-preserved c = record {
  passed = λ q h there same.
      let late = c.loop-part.invariant.passed q h there same in
      elim (cases_lt q.column (64 * (c.loop-part.part + 1))) [
        | inl low ↦
            let k = q.column - 64 * c.loop-part.part in
            let here : k < 64 = omega arith in
            let mine = (row_tells c.args.cells.now.members c.args.row c.loop-part.part c.row.result (omega arith) c.row.ensures k).1
            (here, grind arith) in
            let theirs = (row_tells c.args.others.now.members c.args.row c.loop-part.part c.row-in-loop-part.result (omega arith) c.row-in-loop-part.ensures k).1
            (here, grind arith) in
            absurd (no_bit_zero k (rw c.if-bits-ne0.false at (bit_and_from c.row.result c.row-in-loop-part.result k mine theirs)))
        | inr high ↦ high
      ];
}

pub returns : goal.returns
returns c = λ q h there same.
    let on = c.requires.on q h in
    let late = c.loop-part.invariant.passed q h there same in
    let wide = ap (λ (e : Extent). e.width) c.shape-shape.ensures in
    let value = c.width.ensures.value in
    let right = on.right in
    omega arith
