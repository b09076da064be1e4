-- Rows that are kept. Words that are added after others leave the rows of earlier regions as they are. A word of a row says of 64 columns which
-- cells are there, and a cell has its place in one of these words.
use Rattle.std.proofs.Common.{◌≡◌, ℕ, suc, ◌+◌, ◌-◌, ◌*◌, ◌/◌, ◌%◌, ◌<◌, ◌≤◌, true, false, List, ◌++◌, take, drop, length, get_or, sym, ◌∙◌, ap, subst, inl, inr, arith}
use Rattle.std.specs.{Prelude.◌↔◌, Prelude.MatchBool, Prelude.Bool, Prelude.slice_index, List.slice_range}
use Rattle.std.proofs.Math.Nat.{mul-le-mul_right, suc-mul}
use Rattle.std.proofs.Math.Seq.{drop-append_seam, take-append_seam, take-length}
use Rattle.std.proofs.lemmas.Bool.{cases_lt}
use Rattle.std.proofs.lemmas.List.{get_or_append_left, get_or-append-add, get_or-drop, get_or-take, length-append, length-drop, length-take}
use Rattle.cellset.specs.{Shape.Extent, Bits.bit, RowBits.row_cell, Cell.IsOn, CellSet.Cells, CellSet.Has, declared.cell.Cell.Cell}
use Rattle.closure.specs.Kept.{AreRowsIn, AreSpanned, AreWordsIn, InKept, IsThere, KeptHas, kept_bit, parts_of, rows_of}
use Rattle.closure.specs.declared.kept.{Kept.Kept, Region.Region}

-- The words of a row come before the end of the rows.
pub row_before : (k rows parts p : ℕ) → k < rows → p < parts → k * parts + p < rows * parts
row_before k rows parts p lt part =
    let up = mul-le-mul_right {m = suc k} {n = rows} parts lt in
    let next = suc-mul k parts in
    omega arith

-- One row more.
pub rows_more : (cells : Cells) (first n parts : ℕ) (more row : List ℕ) → length more ≡ n * parts → AreRowsIn cells first n parts more
    → AreWordsIn cells (first + n) parts row → AreRowsIn cells first (n + 1) parts (more ++ row)
rows_more cells first n parts more row long old here k p lt part = elim (cases_lt k n) [
  | inl low ↦ rw (get_or_append_left more row 0 (k * parts + p) (subst (λ l. k * parts + p < l) (sym long) (row_before k n parts p low part))) (old k p low part)
  | inr past ↦
      let same : k ≡ n = omega arith in
      rw (same, ← long, get_or-append-add more row p 0) (here p part)
]

pub rows_long : (n parts : ℕ) (more row : List ℕ) → length more ≡ n * parts → length row ≡ parts → length (more ++ row) ≡ (n + 1) * parts
rows_long n parts more row long one =
    let next = suc-mul n parts in
    let both = length-append more row in
    omega arith

-- Words that are the same as those before them.
pub repeated : (old more : List ℕ) (last : ℕ) → last ≤ length old
    → slice_range (old ++ more) last (length old) ≡ slice_range (old ++ more) (length old) (length (old ++ more))
    → (last + length more ≡ length old) × ((i : ℕ) → i < length more → slice_index old (last + i) ≡ slice_index more i)
repeated old more last low same =
    let all = old ++ more in
    let at = length old in
    let both = length-append old more in
    let rest : length all - at ≡ length more = omega arith in
    let end : slice_range all at (length all) ≡ more =
    ap (take (length all - at)) (drop-append_seam old more) ∙ ap (λ n. take n more) rest ∙ take-length more in
    let dropped = length-drop last all in
    let taken = length-take (at - last) (drop last all) in
    let count : length (slice_range all last at) ≡ at - last = omega arith in
    let long : at - last ≡ length more = sym count ∙ ap length (same ∙ end) in (
      omega arith,
      λ i lt.
          let low_i : i < at - last = omega arith in
          let low_at : last + i < length old = omega arith in
          sym (get_or_append_left old more 0 (last + i) low_at) ∙ sym (get_or-drop last all i 0) ∙ sym (get_or-take (at - last) (drop last all) i 0 low_i)
          ∙ ap (λ w. get_or w i 0) (same ∙ end),
    )

pub same_again : (old more new : List ℕ) (last at : ℕ) → last ≤ length old → at ≡ length old → new ≡ take at (old ++ more)
    → slice_range (old ++ more) last at ≡ slice_range (old ++ more) at (length (old ++ more))
    → (i : ℕ) → i < length more → slice_index new (last + i) ≡ slice_index more i
same_again old more new last at low at_is new_is same i lt =
    let again = repeated old more last low (rw at_is at same) in
    let old_is : new ≡ old = new_is ∙ (ap (λ n. take n (old ++ more)) at_is ∙ take-append_seam old more) in
    rw old_is (again.1 i lt)

pub same_after : (old more new : List ℕ) (at : ℕ) → at ≡ length old → new ≡ old ++ more → (i : ℕ) → i < length more → slice_index new (at + i) ≡ slice_index more i
same_after old more new at at_is new_is i lt = rw (new_is, at_is) (get_or-append-add old more i 0)

-- The columns of a grid are in the words of a row.
pub column_in : (shape : Extent) (parts : ℕ) → parts ≡ parts_of shape → (c : Cell) → IsOn shape c → c.column < 64 * parts
column_in shape parts is c on = grind arith

-- ---- regions that were kept before
either_way : (b : Bool) (P Q : Type 0) → P ↔ Q → MatchBool b (P → ⊥) P ↔ MatchBool b (Q → ⊥) Q
either_way true P Q is = ((λ no q. no (is.1 q)), (λ no p. no (is.0 p)))
either_way false P Q is = is

module _ (kept new : Kept) (region : Region) (more : List ℕ) (parts : new.parts ≡ kept.parts) (grown : new.words.items ≡ kept.words.items ++ more)
    (there : IsThere kept region) where
  pub there_more : IsThere new region
  there_more =
      let both = length-append kept.words.items more in
      rw (parts, grown) (omega arith)

  bit_more : (c : Cell) → c.column < 64 * kept.parts → region.first ≤ c.row → c.row ≤ region.last → kept_bit new region c ≡ kept_bit kept region c
  bit_more c column from to =
      let row = c.row - region.first in
      let at = region.at + (row * kept.parts + c.column / 64) in
      let before = row_before row (rows_of region) kept.parts (c.column / 64) (omega arith) (omega arith) in
      let low : at < length kept.words.items = omega arith in
      rw (parts, grown) (ap (λ w. bit w (c.column % 64)) (get_or_append_left kept.words.items more 0 at low))

  pub has_more : (c : Cell) → c.column < 64 * kept.parts → KeptHas kept region c ↔ KeptHas new region c
  has_more c column = either_way region.lacks (InKept kept region c) (InKept new region c) (
    λ h. record { from = h.from; to = h.to; is = bit_more c column h.from h.to ∙ h.is },
    λ h. record { from = h.from; to = h.to; is = sym (bit_more c column h.from h.to) ∙ h.is },
  )

-- ---- cells
module _ (shape : Extent) (cells : Cells) (kept : Kept) (region : Region) (more : List ℕ) (parts : kept.parts ≡ parts_of shape)
    (spanned : AreSpanned cells region.first (rows_of region))
    (words : (i : ℕ) → i < rows_of region * kept.parts → slice_index kept.words.items (region.at + i) ≡ slice_index more i)
    (rows : AreRowsIn cells region.first (rows_of region) kept.parts more) where
  part_of : (c : Cell) → IsOn shape c → c.column / 64 < kept.parts
  part_of c on = grind arith

  own_cell : (c : Cell) → region.first ≤ c.row → row_cell (region.first + (c.row - region.first)) (c.column / 64) (c.column % 64) ≡ c
  own_cell c from = grind arith

  bit_is : (c : Cell) → IsOn shape c → region.first ≤ c.row → c.row ≤ region.last → kept_bit kept region c ≡ true → Has cells c
  bit_is c on from to is = grind arith

  -- A cell of the grid is in the rows exactly if it is one of the cells.
  pub in_kept : (c : Cell) → IsOn shape c → InKept kept region c ↔ Has cells c
  in_kept c on = grind arith
