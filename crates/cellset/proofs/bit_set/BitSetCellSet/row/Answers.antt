-- There are two ways out. If the grid has no cell in the part, no bit is due (`none_there` in `Rows.antt`). Otherwise the bits from the
-- place of the part's first cell on are cut after the last column, and shifted by the bits before that cell: `IsCutPart` says this. So they
-- are the cells of the part (`row_taken`), and all of them are on the grid (`row_is_on`).
use Rattle.std.proofs.Common.{◌≡◌, ◌+◌, ◌-◌, ◌*◌, ◌%◌, ◌^◌, ◌∙◌, ap, sym, subst}
use Rattle.cellset.specs.RowBits.{IsRowOf}
use Rattle.cellset.specs.SortedList.{index}
use Rattle.cellset.specs.Bits.{has_bit}
use Rattle.cellset.specs.BitSet.{members_of}
use Rattle.cellset.proofs.Rows.{IsCutPart, none_there, row_taken, row_is_on}
use Rattle.cellset.proofs.bit_set.BitSetCellSet.row.Goals as goal

pub returns-in_default-clause-members : goal.returns-in_default-clause-members
returns-in_default-clause-members c =
    subst (λ v. IsRowOf v.members c.args.row c.args.part 0) c.self.view_is
    (none_there c.self.inside.shape c.self.inside.words.items c.args.row c.args.part c.in_default.ensures)

cut : (c : goal.After-lead) → IsCutPart c.self.inside.shape c.self.inside.words.items c.args.row c.args.part c.bits_from-bits.result c.first_bits.result
cut c =
    let shape = c.self.inside.shape in
    let place_is = c.index_of.ensures.value ∙ ap (index shape) c.in-Some.ensures.1 in
    let column_is = ap (λ q. q.column) c.in-Some.ensures.1 in
    let count_is : c.width.result + 1 - c.in-Some.first.column ≡ shape.width + 1 - (64 * c.args.part + (1 - c.args.part)) =
    (λ i. c.width.ensures.value i + 1 - column_is i) in
    record {
      first = c.in-Some.ensures.0;
      taken_are = λ k small. c.bits_from-bits.ensures k small ∙ (λ i. has_bit (c.deref.ensures.value i) (place_is i + k));
      inside = λ k lt. c.first_bits.ensures.inside k (rw count_is lt);
      outside = λ k past. c.first_bits.ensures.outside k (rw count_is past);
    }

read : (c : goal.After-lead) → IsRowOf (members_of c.self.inside.shape c.self.inside.words.items) c.args.row c.args.part
    (c.first_bits.result * 2 ^ c.lead.result % 2 ^ 64)
read c = subst (λ s. IsRowOf (members_of c.self.inside.shape c.self.inside.words.items) c.args.row c.args.part (c.first_bits.result * 2 ^ s % 2 ^ 64))
    (sym c.lead.ensures) (row_taken c.self.inside.shape c.self.inside.words.items c.args.row c.args.part c.bits_from-bits.result c.first_bits.result (cut c))

pub returns-clause-members : goal.returns-clause-members
returns-clause-members c = subst (λ v. IsRowOf v.members c.args.row c.args.part (c.first_bits.result * 2 ^ c.lead.result % 2 ^ 64)) c.self.view_is (read c)

pub returns-clause-on : goal.returns-clause-on
returns-clause-on c = rw (← c.self.view_is) (row_is_on c.self.inside.shape c.self.inside.words.items c.args.row c.args.part (c.first_bits.result * 2 ^ c.lead.result % 2 ^ 64) (read c))
