-- Without a bit there is nothing to add (`row_empty` in `Rows.antt`). With one the part has a cell on the grid, so its first cell is on the
-- grid (`first_there`). The words get the bits from the place of that cell on, and keep the bits before it: `IsRowAdded` says this. So the
-- members are the old ones and the cells of the bits (`row_members`), and the words stay bits of cells of the grid, which is
-- the invariant of the type (`row_bits`).
use Rattle.std.proofs.Common.{◌≡◌, ◌≢◌, ℕ, ◌<◌, ◌||◌, ◌+◌, ◌*◌, ◌-◌, ◌/◌, ◌^◌, length, take, drop, ◌++◌, ◌∙◌, ap, arith}
use Rattle.cellset.specs.Shape.{Extent}
use Rattle.cellset.specs.Cell.{IsOn, cell_at}
use Rattle.cellset.specs.RowBits.{IsRowOn}
use Rattle.cellset.specs.SortedList.{index}
use Rattle.cellset.specs.Bits.{bit, has_bit}
use Rattle.cellset.specs.BitSet.{first_cell}
use Rattle.cellset.proofs.BitSets.{put_back}
use Rattle.cellset.proofs.Rows.{IsRowAdded, row_members, row_bits, first_there, row_empty}
use Rattle.cellset.proofs.bit_set.BitSetCellSet.insert_row.Goals as goal

pub returns-then-bits-eq0-clause-members : goal.returns-then-bits-eq0-clause-members
returns-then-bits-eq0-clause-members c = row_empty c.args.self.now.members c.args.row c.args.part c.args.bits c.if-bits-eq0.true

-- The first cell of a part with a bit is on the grid.
there : (shape extent : Extent) (row part bits : ℕ) → shape ≡ extent → bits < 2 ^ 64 → bits ≢ 0 → IsRowOn extent row part bits
    → IsOn shape (first_cell row part)
there shape extent row part bits same fits some row_on = first_there shape row part bits fits some (rw same row_on)

pub overflow_mul-first : goal.overflow_mul-first
overflow_mul-first c =
    let on = there c.self.inside.shape _ c.args.row c.args.part c.args.bits (ap (λ v. v.extent) c.self.view_is) c.ranges.bits.fits c.if-bits-eq0.false
    c.requires in
    omega arith

pub overflow_add-first : goal.overflow_add-first
overflow_add-first c =
    let on = there c.self.inside.shape _ c.args.row c.args.part c.args.bits (ap (λ v. v.extent) c.self.view_is) c.ranges.bits.fits c.if-bits-eq0.false
    c.requires in
    omega arith

pub index_of-requires : goal.index_of-requires
index_of-requires c =
    rw c.lead.ensures
    (there c.self.inside.shape _ c.args.row c.args.part c.args.bits (ap (λ v. v.extent) c.self.view_is) c.ranges.bits.fits c.if-bits-eq0.false c.requires)

pub set_bits-requires : goal.set_bits-requires
set_bits-requires c = grind (arith, there)

whole : (c : goal.After-self-1) → take c.self.inside.words.len
    (c.set_bits.new.words ++ drop (length c.set_bits.new.words) c.self.inside.words.items) ≡ c.set_bits.new.words
whole c = grind (arith, put_back)

added : (c : goal.After-self-1) → IsRowAdded c.self.inside.shape c.self.inside.words.items c.set_bits.new.words c.args.row c.args.part c.args.bits
added c =
    let shape = c.self.inside.shape in
    let old = c.deref_mut.ensures.value in
    let place_is = c.index_of.ensures.value ∙ ap (λ n. index shape (cell_at (64 * c.args.part + n) c.args.row)) c.lead.ensures in
    record {
      first = there shape _ c.args.row c.args.part c.args.bits (ap (λ v. v.extent) c.self.view_is) c.ranges.bits.fits c.if-bits-eq0.false c.requires;
      row_on = rw (ap (λ v. v.extent) c.self.view_is) c.requires;
      fits = c.ranges.bits.fits;
      len = c.set_bits.auto.words ∙ ap length old;
      before = λ k lt. c.set_bits.ensures.before k (rw place_is lt) ∙ ap (λ ws. has_bit ws k) old;
      from = λ k le inside. c.set_bits.ensures.from k (rw place_is le) (rw old inside)
          ∙ (λ i. has_bit (old i) k || bit (c.args.bits / 2 ^ c.lead-2.ensures i) (k - place_is i));
    }

pub invariant_of-self : goal.invariant_of-self
invariant_of-self c =
    rw (whole c) (row_bits c.self.inside.shape c.self.inside.words.items c.set_bits.new.words c.args.row c.args.part c.args.bits c.self.invariant (added c))

pub returns-clause-members : goal.returns-clause-members
returns-clause-members c = grind (arith, whole, row_members, added)
