-- How the cells of a set are listed row by row.
-- A row is read in parts of 64 columns, each as the bits of a word. The lowest set bit is the next cell, because the set has no cell
-- between the listed cells and this one. It comes after all listed cells, so the list stays in order. A row has no
-- cell past the last column of the grid, and the grid has no cell below its last row.
use Rattle.std.proofs.Common.{◌≡◌, ℕ, ◌+◌, ◌-◌, ◌*◌, ◌%◌, ◌^◌, ◌<◌, ◌≤◌, List, [], ◌∷◌, ◌++◌}
use Rattle.std.proofs.Common.{refl, sym, subst, inl, inr, arith}
use Rattle.std.specs.Prelude.{◌↔◌, bit_and}
use Rattle.std.specs.Int.{bit_not, trailing_zeros, w64}
use Rattle.std.specs.FinSet as set
use Rattle.std.proofs.lemmas.Bool.{cases_lt}
use Rattle.std.proofs.lemmas.Nat.Bits.{bit_at-trailing_zeros}
use Rattle.cellset.specs.Cell.{cell_at}
use Rattle.cellset.specs.CellSet.{Cells, Has}
use Rattle.cellset.specs.declared.cell.Cell.{Cell}
use Rattle.cellset.proofs.Members.{inserted, kept_by_insert, has_insert, has_empty, same_members}
use Rattle.cellset.proofs.Truth.{either}
use Rattle.answers.specs.declared.pattern.Coord.{Coord}
use Rattle.certificates.specs.CellLists.{cell_of, cells_of}
use Rattle.certificates.proofs.CellLists.{cells_push}
use Rattle.reach.specs.Bits.{Bit}
use Rattle.reach.proofs.Words.{bit_and_l, bit_cleared, bit_not_cleared, bit_of, le_by_bits, less_by_bit, no_bit_zero, not_both}
use Rattle.maker.specs.Listed.{IsEarlier, IsListedTo}
use Rattle.maker.specs.Made.{IsListOf}
use Rattle.maker.proofs.Listing.{in_order_push, listed_cell}

-- ---- positions without a cell
module _ (cells : Cells) where
  -- The empty list has the cells before the first row, because there are none.
  pub none_listed : ((c : Cell) → Has cells c → 1 ≤ c.row) → IsListedTo cells 1 0 []
  none_listed below = record {
    only = λ c h. has_empty c h;
    all = λ c has early. elim early [
      | inl above ↦ absurd (let low = below c has in omega arith)
      | inr left ↦ absurd (let before = left.1 in omega arith)
    ];
    order = tt;
  }

  -- A list up to a column is a list up to a later one, if no cell is between them.
  pub passed : (row a b : ℕ) (coords : List Coord) → a ≤ b → ((c : Cell) → Has cells c → c.row ≡ row → a ≤ c.column → c.column < b → ⊥)
      → IsListedTo cells row a coords → IsListedTo cells row b coords
  passed row a b coords up none l = grind (arith, cases_lt)

  -- A list up to the row after the last one has every cell of the set.
  pub all_listed : (row : ℕ) (coords : List Coord) → ((c : Cell) → Has cells c → c.row < row)
      → IsListedTo cells row 0 coords → IsListOf cells coords
  all_listed row coords above l = grind (arith, same_members)

-- ---- the next cell
module _ (cells : Cells) (row column : ℕ) (coords : List Coord) (has : Has cells (cell_at column row)) (l : IsListedTo cells row column coords) where
  abbrev here : Cell
  here = cell_at column row

  abbrev next : Coord
  next = record { row = row; column = column }

  only_more : (q : Cell) → Has (set.insert (cells_of coords) here) q → Has cells q × IsEarlier row (column + 1) q
  only_more q h = grind (arith, either, has_insert)

  all_more : (q : Cell) → Has cells q → IsEarlier row (column + 1) q → Has (set.insert (cells_of coords) here) q
  all_more q there early = elim early [
    | inl above ↦ kept_by_insert (cells_of coords) here q (l.all q there (inl above))
    | inr left ↦ elim (cases_lt q.column column) [
      | inl low ↦ kept_by_insert (cells_of coords) here q (l.all q there (inr (left.0, low)))
      | inr high ↦
          let same_row : row ≡ q.row = sym left.0 in
          let same_column : column ≡ q.column = let before = left.1 in omega arith in
          subst (Has (set.insert (cells_of coords) here)) (λ i. record { row = same_row i; column = same_column i }) (inserted (cells_of coords) here)
    ]
  ]

  -- With the next cell the list goes one column further.
  pub next_listed : IsListedTo cells row (column + 1) (coords ++ next ∷ [])
  next_listed =
      let push = cells_push coords next in
      record {
        only = λ q h. only_more q (rw push at h);
        all = λ q there early. rw push (all_more q there early);
        order = in_order_push coords next l.order (λ y h. (l.only (cell_of y) (listed_cell coords y h)).1);
      }

-- ---- the bits of a part of a row
-- The word has the cells of the part from a column on, and all cells before that column are listed.
pub record IsListing (cells : Cells) (row first bits : ℕ) (coords : List Coord) : Type 0 where
  pub from : ℕ
  pub within : from ≤ 64
  pub listed : IsListedTo cells row (first + from) coords
  pub rest : (k : ℕ) → Bit bits k ↔ ((k < 64) × (from ≤ k) × Has cells (cell_at (first + k) row))

-- At the start the word has all cells of the part.
pub listing_starts : (cells : Cells) (row first bits : ℕ) (coords : List Coord) → ((k : ℕ) → Bit bits k ↔ ((k < 64) × Has cells (cell_at (first + k) row)))
    → IsListedTo cells row first coords → IsListing cells row first bits coords
listing_starts cells row first bits coords is listed = grind arith

-- A cell of the row is found at its distance from the first column of the part.
at_bit : (cells : Cells) (row first : ℕ) (c : Cell) → Has cells c → c.row ≡ row → first ≤ c.column → Has cells (cell_at (first + (c.column - first)) row)
at_bit cells row first c has same low = grind arith

-- Once no bit is left, all cells of the part are listed.
pub listing_ends : (cells : Cells) (row first bits : ℕ) (coords : List Coord) → bits ≡ 0 → IsListing cells row first bits coords
    → IsListedTo cells row (first + 64) coords
listing_ends cells row first bits coords none l =
    let up : first + l.from ≤ first + 64 = let within = l.within in omega arith in
    passed cells row (first + l.from) (first + 64) coords up
    (λ c has same low high.
    let k = c.column - first in
    let small : k < 64 = omega arith in
    let late : l.from ≤ k = omega arith in
    no_bit_zero k (rw none at ((l.rest k).1 (small, late, at_bit cells row first c has same (omega arith)))))
    l.listed

module _ (cells : Cells) (row first bits : ℕ) (coords : List Coord) (some : 0 < bits) (fits : bits < 2 ^ 64) (l : IsListing cells row first bits coords) where
  abbrev low : ℕ
  low = trailing_zeros w64 bits

  in_word : low < 64
  in_word = (bit_at-trailing_zeros w64 bits some fits).0

  no_lower : (k : ℕ) → k < low → Bit bits k → ⊥
  no_lower k lower b = not_both bits k ((bit_at-trailing_zeros w64 bits some fits).2 k lower) b

  lowest : (low < 64) × (l.from ≤ low) × Has cells (cell_at (first + low) row)
  lowest = (l.rest low).0 (bit_of bits low (bit_at-trailing_zeros w64 bits some fits).1)

  up_to_it : IsListedTo cells row (first + low) coords
  up_to_it =
      let late = lowest.1 in
      passed cells row (first + l.from) (first + low) coords (omega arith)
      (λ c has same from to.
      let k = c.column - first in
      let small : k < 64 = omega (arith, in_word) in
      let after : l.from ≤ k = omega arith in
      let lower : k < low = omega arith in
      no_lower k lower ((l.rest k).1 (small, after, at_bit cells row first c has same (omega arith))))
      l.listed

  -- The bits of the word without the lowest one.
  abbrev others : ℕ
  others = bit_and bits (bit_not w64 (1 * 2 ^ low % 2 ^ 64))

  pub bit_listed : IsListing cells row first others (coords ++ (record { row = row; column = first + low }) ∷ [])
  bit_listed =
      let after : first + low + 1 ≡ first + (low + 1) = omega arith in
      record {
        from = low + 1;
        within = omega (arith, in_word);
        listed = rw after at (next_listed cells row (first + low) coords lowest.2 up_to_it);
        rest = λ k. (
          (λ b.
              let was = bit_and_l bits _ k b in
              let (small, late, has) = (l.rest k).0 was in
              (small, above k b was, has)),
          (λ (small, late, has).
              let from = lowest.1 in
              bit_not_cleared bits low k in_word small (λ e. omega arith) ((l.rest k).1 (small, omega arith, has))),
        );
      }
    where
      above : (k : ℕ) → Bit others k → Bit bits k → low + 1 ≤ k
      above k b was = elim (cases_lt low k) [
        | inl higher ↦ omega arith
        | inr lower ↦ elim (cases_lt k low) [
          | inl below ↦ absurd (no_lower k below was)
          | inr same ↦ absurd (bit_cleared bits low k in_word b (omega arith))
        ]
      ]

  pub fewer_bits : others < bits
  fewer_bits = less_by_bit bits others low (le_by_bits others bits (λ k b. bit_and_l bits _ k b))
      (bit_of bits low (bit_at-trailing_zeros w64 bits some fits).1) (λ b. bit_cleared bits low low in_word b refl)
