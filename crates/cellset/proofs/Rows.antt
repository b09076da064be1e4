-- Parts of rows as bits: which cells the bits stand for, and what it means to read and to add them.
-- The cells of a part of a row are neighbours in a set of bits, so the bits of the part are those from its first cell
-- on. That cell is the one of bit 0, but of bit 1 in part 0: columns count from 1, so the bits of part 0 are shifted by
-- one.
use Rattle.std.proofs.Common.{◌≡◌, ◌≢◌, ℕ, zero, suc, ◌+◌, ◌-◌, ◌*◌, ◌/◌, ◌%◌, ◌^◌, ◌<◌, ◌≤◌, Bool, true, false, cond, ◌||◌, List, length, refl, sym, ◌∙◌, ap}
use Rattle.std.proofs.Common.{subst, arith}
use Rattle.std.specs.Prelude.{nat_eq, bit_or, bit_and}
use Rattle.std.specs.Int.{trailing_zeros, w64}
use Rattle.std.proofs.lemmas.Bool.{false≢true, cases_eq, cases_lt, eq-eqb, ne_eqb}
use Rattle.std.proofs.lemmas.Nat.Bits.{bit_at-trailing_zeros, bit_at_set_same, bit_at_set_other, shr_and_one}
use Rattle.std.specs.FinSet as set
use Rattle.std.specs.FinSet.{contains, contains-union}
use Rattle.std.proofs.Math.Bool.{or-false}
use Rattle.cellset.specs.Shape.{Extent}
use Rattle.cellset.specs.Cell.{IsOn}
use Rattle.cellset.specs.CellSet.{Cells, Has, Lacks}
use Rattle.cellset.specs.RowBits.{row_cell, IsRowOf, IsRowOn, first_of_row, cells_of_row}
use Rattle.cellset.specs.SortedList.{index}
use Rattle.cellset.specs.Bits.{bit, has_bit}
use Rattle.cellset.specs.BitSet.{IsBitsOf, members_of, first_cell}
use Rattle.cellset.specs.declared.cell.Cell.{Cell}
use Rattle.cellset.proofs.Truth.{either, or_cases}
use Rattle.cellset.proofs.Members.{union_empty, union_insert, cells_total, same_cells, same_or_other, lacks_where, inserted, kept_by_insert, has_insert, has_empty}
use Rattle.cellset.proofs.ReadingOrder.{below_index, index_apart}
use Rattle.cellset.proofs.BitSets.{contains_on, member_on, same_on}
use Rattle.cellset.proofs.WordLoops.{none_past, zero_bit}
use Rattle.cellset.proofs.Shifts.{bit_past, bit_up, bit_up_below, bit_down}

true_or_false : (b : Bool) {G : Type 0} → (b ≡ true → G) → (b ≡ false → G) → G
true_or_false true f g = f refl
true_or_false false f g = g refl

-- ---- the cells of a part of a row
-- the cell is that of a set bit among the first n
pub record IsInRow (row part bits n : ℕ) (q : Cell) : Type 0 where
  pub k : ℕ
  pub below : k < n
  pub is_set : bit bits k ≡ true
  pub here : q ≡ row_cell row part k

in_more : (row part bits n : ℕ) (q : Cell) → IsInRow row part bits n q → IsInRow row part bits (suc n) q
in_more row part bits n q i = grind arith

pub has_in_row : (row part bits n : ℕ) (q : Cell) → Has (first_of_row row part bits n) q → IsInRow row part bits n q
unfolding first_of_row
has_in_row row part bits zero q has = has_empty q has
has_in_row row part bits (suc n) q has = elim (bit bits n) as
    (λ b. bit bits n ≡ b → Has (cond b (set.insert (first_of_row row part bits n) (row_cell row part n)) (first_of_row row part bits n)) q
    → IsInRow row part bits (suc n) q) [
      | true ↦ λ e h. either (has_insert (first_of_row row part bits n) (row_cell row part n) q h)
          (λ is. record { k = n; below = omega arith; is_set = e; here = is })
          (λ was. in_more row part bits n q (has_in_row row part bits n q was))
      | false ↦ λ _ h. in_more row part bits n q (has_in_row row part bits n q h)
    ] refl has

pub row_has : (row part bits n k : ℕ) → k < n → bit bits k ≡ true → Has (first_of_row row part bits n) (row_cell row part k)
unfolding first_of_row
row_has row part bits zero k lt is_set = absurd (omega arith)
row_has row part bits (suc n) k lt is_set =
    either (cases_eq k n)
    (λ e. rw (← (sym (ap (bit bits) (sym e) ∙ is_set))) (subst (λ j. Has (set.insert (first_of_row row part bits n) (row_cell row part n)) (row_cell row part j)) (sym e)
    (inserted (first_of_row row part bits n) (row_cell row part n))))
    (λ ne. kept (bit bits n) (row_has row part bits n k (omega arith) is_set))
  where
    kept : (b : Bool) → Has (first_of_row row part bits n) (row_cell row part k)
        → Has (cond b (set.insert (first_of_row row part bits n) (row_cell row part n)) (first_of_row row part bits n)) (row_cell row part k)
    kept true h = kept_by_insert (first_of_row row part bits n) (row_cell row part n) (row_cell row part k) h
    kept false h = h

-- ---- bits added one by one
pub union_none : (s : Cells) (row part bits : ℕ) → s ≡ set.union s (first_of_row row part bits 0)
unfolding first_of_row
union_none s row part bits = union_empty s

pub union_more : (s now : Cells) (row part bits k : ℕ) → now ≡ set.union s (first_of_row row part bits k) → bit bits k ≡ true
    → set.insert now (row_cell row part k) ≡ set.union s (first_of_row row part bits (k + 1))
unfolding first_of_row
union_more s now row part bits k is is_set = grind (arith, union_insert)

pub union_same : (s now : Cells) (row part bits k : ℕ) → now ≡ set.union s (first_of_row row part bits k) → bit bits k ≡ false
    → now ≡ set.union s (first_of_row row part bits (k + 1))
unfolding first_of_row
union_same s now row part bits k is unset = grind arith

-- ---- a part of a row among the bits of a set
-- if a cell of a part lies on the grid, the first cell of the part does
first_on : (shape : Extent) (row part k : ℕ) → IsOn shape (row_cell row part k) → IsOn shape (first_cell row part)
first_on shape row part k on = grind arith

-- the bit of a cell on the grid is none of the bits before the first cell
led : (shape : Extent) (row part k : ℕ) → IsOn shape (row_cell row part k) → 1 - part ≤ k
led shape row part k on = omega arith

cell_on : (shape : Extent) (row part k : ℕ) → IsOn shape (first_cell row part) → 1 - part ≤ k → 64 * part + k ≤ shape.width → IsOn shape (row_cell row part k)
cell_on shape row part k on from within = grind arith

side_by_side : (shape : Extent) (row part k : ℕ) → 1 - part ≤ k → index shape (row_cell row part k) ≡ index shape (first_cell row part) + (k - (1 - part))
side_by_side shape row part k from = grind arith

pub none_there : (shape : Extent) (words : List ℕ) (row part : ℕ) → (IsOn shape (first_cell row part) → ⊥) → IsRowOf (members_of shape words) row part 0
none_there shape words row part off = grind (arith, zero_bit, lacks_where, first_on, member_on)

-- the bits of a part are the bits of a set from the first cell on, cut at the end of the row
pub record IsCutPart (shape : Extent) (words : List ℕ) (row part taken bits : ℕ) : Type 0 where
  pub first : IsOn shape (first_cell row part)
  pub taken_are : (k : ℕ) → k < 64 → bit taken k ≡ has_bit words (index shape (first_cell row part) + k)
  pub inside : (k : ℕ) → k < shape.width + 1 - (64 * part + (1 - part)) → bit bits k ≡ bit taken k
  pub outside : (k : ℕ) → shape.width + 1 - (64 * part + (1 - part)) ≤ k → bit bits k ≡ false

pub row_taken : (shape : Extent) (words : List ℕ) (row part taken bits : ℕ) → IsCutPart shape words row part taken bits
    → IsRowOf (members_of shape words) row part (bits * 2 ^ (1 - part) % 2 ^ 64)
row_taken shape words row part taken bits cut = grind (arith, either, cases_lt, bit_up_below, led, bit_up, none, told)
  where
    none : (k : ℕ) → (IsOn shape (row_cell row part k) → ⊥) → false ≡ contains (members_of shape words) (row_cell row part k)
    none k off = search (lacks_where, member_on)

    told : (k : ℕ) → k < 64 → 1 - part ≤ k → bit bits (k - (1 - part)) ≡ contains (members_of shape words) (row_cell row part k)
    told k small from = grind (arith, either, cases_lt, side_by_side, contains_on, cell_on, none)

pub row_is_on : (shape : Extent) (words : List ℕ) (row part bits : ℕ) → IsRowOf (members_of shape words) row part bits → IsRowOn shape row part bits
row_is_on shape words row part bits is = grind (arith, member_on)

-- ---- a part of a row added to the bits of a set
pub record IsRowAdded (shape : Extent) (old new : List ℕ) (row part bits : ℕ) : Type 0 where
  pub first : IsOn shape (first_cell row part)
  pub row_on : IsRowOn shape row part bits
  pub fits : bits < 2 ^ 64
  pub len : length new ≡ length old
  pub before : (k : ℕ) → k < index shape (first_cell row part) → has_bit new k ≡ has_bit old k
  pub from : (k : ℕ) → index shape (first_cell row part) ≤ k → k / 64 < length old
      → has_bit new k ≡ (has_bit old k || bit (bits / 2 ^ (1 - part)) (k - index shape (first_cell row part)))

-- a set bit of a word is one of its 64 bits
set_small : (bits j : ℕ) → bits < 2 ^ 64 → bit bits j ≡ true → j < 64
set_small bits j fits is_set = grind (arith, either, cases_lt, false≢true, bit_past)

-- the cell is that of a set bit of the part, by its index
pub record IsPartOf (shape : Extent) (row part bits : ℕ) (q : Cell) : Type 0 where
  pub k : ℕ
  pub is_set : bit bits k ≡ true
  pub from : 1 - part ≤ k
  pub at : index shape q ≡ index shape (first_cell row part) + (k - (1 - part))

in_part : (shape : Extent) (row part bits : ℕ) (q : Cell) → IsRowOn shape row part bits → Has (cells_of_row row part bits) q → IsPartOf shape row part bits q
in_part shape row part bits q row_on has =
    let i = has_in_row row part bits 64 q has in
    grind arith

-- a set bit of a part has its cell on the grid, at its distance from the first cell
part_at : (shape : Extent) (row part bits j : ℕ) → IsRowOn shape row part bits → bits < 2 ^ 64 → bit bits (1 - part + j) ≡ true
    → IsOn shape (row_cell row part (1 - part + j)) × (index shape (row_cell row part (1 - part + j)) ≡ index shape (first_cell row part) + j)
part_at shape row part bits j row_on fits is_set = grind (arith, set_small, side_by_side)

-- if a cell of the grid isn't before the part, its bit says whether it is a cell of the part
row_bit : (shape : Extent) (row part bits : ℕ) (q : Cell) → IsRowOn shape row part bits → bits < 2 ^ 64 → IsOn shape q
    → index shape (first_cell row part) ≤ index shape q → bit (bits / 2 ^ (1 - part)) (index shape q - index shape (first_cell row part)) ≡ contains
    (cells_of_row row part bits) q
row_bit shape row part bits q row_on fits on from =
    let j = index shape q - index shape (first_cell row part) in
    bit_down bits (1 - part) j ∙ true_or_false (bit bits (1 - part + j))
    (λ is_set.
    let there = part_at shape row part bits j row_on fits is_set in
    let same_place : index shape q ≡ index shape (row_cell row part (1 - part + j)) = let e = there.1 in omega arith in
    is_set ∙ same_or_other q (row_cell row part (1 - part + j))
    (λ e. sym (ap (contains (cells_of_row row part bits)) e ∙ row_has row part bits 64 (1 - part + j) (set_small bits (1 - part + j) fits is_set) is_set))
    (λ f. absurd (index_apart shape q (row_cell row part (1 - part + j)) on there.0 f same_place)))
    (λ unset. unset ∙ sym (lacks_where (cells_of_row row part bits) q (λ has.
    let i = in_part shape row part bits q row_on has in
    let j_is : 1 - part + j ≡ i.k = omega arith in
    false≢true (sym unset ∙ ap (bit bits) j_is ∙ i.is_set))))

-- a cell before the part isn't a cell of the part
row_after : (shape : Extent) (row part bits : ℕ) (q : Cell) → IsRowOn shape row part bits → index shape q < index shape (first_cell row part)
    → Lacks (cells_of_row row part bits) q
row_after shape row part bits q row_on before = lacks_where (cells_of_row row part bits) q (λ has.
    let i = in_part shape row part bits q row_on has in
    omega arith)

pub row_members : (shape : Extent) (old new : List ℕ) (row part bits : ℕ) → IsBitsOf shape old → IsRowAdded shape old new row part bits
    → members_of shape new ≡ set.union (members_of shape old) (cells_of_row row part bits)
row_members shape old new row part bits is a = same_on shape new (set.union (members_of shape old) (cells_of_row row part bits))
    (λ q has. or_cases (contains (members_of shape old) q) (contains (cells_of_row row part bits) q)
    (sym (contains-union cells_total (members_of shape old) (cells_of_row row part bits) q) ∙ has) (member_on shape old q)
    (λ in_row. let i = has_in_row row part bits 64 q in_row in rw i.here (a.row_on i.k i.below i.is_set)))
    (λ q on.
    let n = index shape (first_cell row part) in
    let long = is.len in
    let below = below_index shape q on in
    either (cases_lt (index shape q) n)
    (λ lt. a.before (index shape q) lt ∙ sym (or-false (has_bit old (index shape q)))
    ∙ (λ i. sym (contains_on shape old q on) i || sym (row_after shape row part bits q a.row_on lt) i))
    (λ from. a.from (index shape q) from (omega arith)
    ∙ (λ i. sym (contains_on shape old q on) i || row_bit shape row part bits q a.row_on a.fits on from i))
    ∙ sym (contains-union cells_total (members_of shape old) (cells_of_row row part bits) q))

pub row_bits : (shape : Extent) (old new : List ℕ) (row part bits : ℕ) → IsBitsOf shape old → IsRowAdded shape old new row part bits → IsBitsOf shape new
row_bits shape old new row part bits is a = record {
  sides = is.sides;
  len = a.len ∙ is.len;
  clear = λ k past.
      let low = below_index shape (first_cell row part) a.first in
      let kept = a.len in
      either (cases_lt (k / 64) (length old))
      (λ inside. a.from k (omega arith) inside ∙ (λ i. is.clear k past i || unset k past i))
      (λ outside. none_past new k (omega arith));
}
  where
    unset : (k : ℕ) → shape.width * shape.height ≤ k → bit (bits / 2 ^ (1 - part)) (k - index shape (first_cell row part)) ≡ false
    unset k past =
        let n = index shape (first_cell row part) in
        bit_down bits (1 - part) (k - n) ∙ true_or_false (bit bits (1 - part + (k - n)))
        (λ is_set.
        let there = part_at shape row part bits (k - n) a.row_on a.fits is_set in
        let at = there.1 in
        let below = below_index shape (row_cell row part (1 - part + (k - n))) there.0 in
        absurd (omega arith))
        (λ e. e)

-- if a part with a bit is on the grid, its first cell is on the grid
pub first_there : (shape : Extent) (row part bits : ℕ) → bits < 2 ^ 64 → bits ≢ 0 → IsRowOn shape row part bits → IsOn shape (first_cell row part)
first_there shape row part bits fits some row_on =
    let k = trailing_zeros w64 bits in
    let lowest = bit_at-trailing_zeros w64 bits (omega arith) fits in
    first_on shape row part k (row_on k lowest.0 (ap (λ b. nat_eq b 1) lowest.1))

-- a part without a bit adds nothing to a set
pub row_empty : (s : Cells) (row part bits : ℕ) → bits ≡ 0 → s ≡ set.union s (cells_of_row row part bits)
row_empty s row part bits none = same_cells _ _ (λ q. sym (
    contains-union cells_total s (cells_of_row row part bits) q
    ∙ ap (λ b. contains s q || b) (lacks_where (cells_of_row row part bits) q (λ has.
    let i = has_in_row row part bits 64 q has in
    absurd (false≢true (sym (ap (λ n. bit n i.k) none ∙ zero_bit i.k) ∙ i.is_set))))
    ∙ or-false (contains s q)))

-- ---- bits read one by one
-- of the bits below k, exactly the bits of members are set, and no other bit is
pub record IsRowRead (s : Cells) (row part bits k : ℕ) : Type 0 where
  pub done : (j : ℕ) → j < k → bit bits j ≡ contains s (row_cell row part j)
  pub rest : (j : ℕ) → k ≤ j → bit bits j ≡ false

pub member_read : (s : Cells) (row part bits k : ℕ) → IsRowRead s row part bits k → k < 64 → Has s (row_cell row part k)
    → IsRowRead s row part (bit_or bits (1 * 2 ^ k % 2 ^ 64)) (k + 1)
member_read s row part bits k r small has =
    let other = λ (j : ℕ) (ne : j ≢ k). ap (λ b. nat_eq b 1) (bit_at_set_other w64 bits k small j ne) in
    record {
      done = λ j lt. either (cases_eq j k)
          (λ e. ap (bit (bit_or bits (1 * 2 ^ k % 2 ^ 64))) e ∙ ap (λ b. nat_eq b 1) (bit_at_set_same w64 bits k small)
          ∙ sym (ap (λ i. contains s (row_cell row part i)) e ∙ has))
          (λ ne. other j ne ∙ r.done j (omega arith));
      rest = λ j past. other j (λ e. omega arith) ∙ r.rest j (omega arith);
    }

pub absent_read : (s : Cells) (row part bits k : ℕ) → IsRowRead s row part bits k → Lacks s (row_cell row part k) → IsRowRead s row part bits (k + 1)
absent_read s row part bits k r lacks = grind (arith, either, cases_eq)

-- a bit is set if shifting and masking give 1
pub tested_set : (n k : ℕ) → bit_and (n / 2 ^ k) 1 ≡ 1 → bit n k ≡ true
tested_set n k h = grind (arith, eq-eqb, shr_and_one)

pub tested_unset : (n k : ℕ) → bit_and (n / 2 ^ k) 1 ≢ 1 → bit n k ≡ false
tested_unset n k h = search (ne_eqb, shr_and_one)
