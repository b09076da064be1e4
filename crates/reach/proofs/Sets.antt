-- The rows of a grid as a finite set of cells.
use Rattle.std.proofs.Common.{◌≡◌, ℕ, ◌+◌, ◌*◌, ◌<◌, ◌≤◌, Bool, true, false, ◌||◌, List, ◌++◌, take, drop, length, refl, sym, ◌∙◌, ap, inl}
use Rattle.std.proofs.Common.{inr, arith}
use Rattle.std.specs.Prelude.{◌⊎◌, ◌↔◌}
use Rattle.std.proofs.Math.ListN.{replicate, length-set}
use Rattle.std.proofs.Math.ListN as lists
use Rattle.std.proofs.lemmas.Bool.{false≢true, cases_lt}
use Rattle.std.proofs.lemmas.List.{get_or-replicate, length-replicate, append-nil, take_all, drop_all}
use Rattle.std.specs.FinSet as set
use Rattle.std.specs.FinSet.{contains, contains-union, contains-empty}
use Rattle.cellset.specs.Shape.{Extent}
use Rattle.cellset.specs.Cell.{IsOn, cell_cmp}
use Rattle.cellset.specs.CellSet.{Cells, CellsOn, Has}
use Rattle.cellset.specs.declared.cell.Cell.{Cell}
use Rattle.cellset.proofs.Truth.{either, never_true}
use Rattle.cellset.proofs.Members.{cells_total, has_empty, same_cells, same_members}
use Rattle.cellset.proofs.ReadingOrder.{has_where, in_where}
use Rattle.reach.specs.Bits.{HasBit}
use Rattle.reach.specs.BitRows.{InRows}
use Rattle.reach.proofs.Loads.{none_past}
use Rattle.reach.specs.Grown.{AreInside, in_rows}
use Rattle.reach.specs.RowSet.{AreRowsOf, AreRowsQueued, members_in}
use Rattle.reach.proofs.Lines.{none_in_zeros}

module _ (shape : Extent) (rows : List (List ℕ)) (on : (c : Cell) → InRows rows c → IsOn shape c) where
  -- the set of the rows has the cells whose bits are set
  pub has_is : (q : Cell) → Has (members_in shape rows) q ↔ InRows rows q
  has_is q = grind (arith, in_where, has_where)

  -- the test of the set and the test of the rows are equal
  pub contains_is : (q : Cell) → contains (members_in shape rows) q ≡ in_rows rows q
  contains_is q = grind (arith, has_is)

  pub tests_are : contains (members_in shape rows) ≡ in_rows rows
  tests_are = λ j q. contains_is q j

  -- a set with the same members is the set of the rows
  pub set_is : (s : Cells) → ((q : Cell) → InRows rows q ↔ Has s q) → members_in shape rows ≡ s
  set_is s same = grind (arith, same_members, has_is)

-- ---- empty rows
pub none_in : (n m : ℕ) (c : Cell) → InRows (replicate {A = List ℕ} n (replicate {A = ℕ} m 0)) c → ⊥
none_in n m c h = grind (arith, cases_lt, none_in_zeros, get_or-replicate, replicate, none_past, length-replicate)

-- the rows of a vector whose slice was changed
pub put_back : (n : ℕ) (old new : List (List ℕ)) → n ≡ length old → length new ≡ length old → take n (new ++ drop (length new) old) ≡ new
put_back n old new same_len kept = grind (arith, drop_all, append-nil, take_all)

pub rows_put_back : (n : ℕ) (shape : Extent) (len : ℕ) (old new : List (List ℕ)) → len ≡ length old → AreRowsOf n shape old → length new ≡ length old
    → ((c : Cell) → InRows new c → IsOn shape c) → AreRowsOf n shape (take len (new ++ drop (length new) old))
rows_put_back n shape len old new same_len were kept on = grind (arith, put_back)

-- rows of which one was written
pub rows_written : (n : ℕ) (shape : Extent) (items : List (List ℕ)) (y : ℕ) (row : List ℕ) → AreRowsOf n shape items
    → ((c : Cell) → InRows (lists.set items y row) c → IsOn shape c) → AreRowsOf n shape (lists.set items y row)
rows_written n shape items y row r on = search (length-set)

-- rows of the same grid are equally many
pub rows_alike : (n : ℕ) (a b : Extent) (xs ys : List (List ℕ)) → a ≡ b → AreRowsOf n a xs → AreRowsOf n b ys → length xs ≡ length ys
rows_alike n a b xs ys same x y = search

pub rows_few : (n : ℕ) (shape : Extent) (rows : List (List ℕ)) → AreRowsOf n shape rows → length rows ≤ 256
rows_few n shape rows r = omega arith

pub rows_inside : (n : ℕ) (shape : Extent) (rows : List (List ℕ)) → AreRowsOf n shape rows → AreInside rows
rows_inside n shape rows r = grind arith

-- a set with the members of two sets is their union
pub union_is : (s t u : Cells) → ((q : Cell) → Has u q ↔ (Has s q ⊎ Has t q)) → u ≡ set.union s t
union_is s t u each = same_cells u (set.union s t) (λ q. pointwise (contains u q) (contains s q) (contains t q) (each q)
    ∙ sym (contains-union cells_total s t q))
  where
    pointwise : (a b d : Bool) → (a ≡ true) ↔ ((b ≡ true) ⊎ (d ≡ true)) → a ≡ (b || d)
    pointwise a true d is = is.1 (inl refl)
    pointwise a false true is = is.1 (inr refl)
    pointwise a false false is = never_true a (λ h. either (is.0 h) false≢true false≢true)

-- rows that were read from a set on the grid have its members
pub loaded_same : (shape : Extent) (rows : List (List ℕ)) (s : Cells) (n : ℕ) → shape.width < 64 * n → ((q : Cell) → Has s q → IsOn shape q)
    → ((q : Cell) → InRows rows q ↔ ((q.row < shape.height + 1) × (q.column < 64 * n) × Has s q)) → (q : Cell) → InRows rows q ↔ Has s q
loaded_same shape rows s n wide on cells q = grind arith

-- rows with no cell are the empty set
pub none_empty : (shape : Extent) (rows : List (List ℕ)) → ((q : Cell) → InRows rows q → ⊥) → members_in shape rows ≡ set.empty
none_empty shape rows none = set_is shape rows (λ q h. absurd (none q h)) set.empty
    (λ q. ((λ h. absurd (none q h)), (λ h. absurd (false≢true (sym (contains-empty cell_cmp q) ∙ h)))))

-- a set that was stored in an empty one has its members there
pub stored_is : (s t u : Cells) → s ≡ set.empty → u ≡ set.union s t → (q : Cell) → Has u q ↔ Has t q
stored_is s t u empty union q =
    let whole : contains u q ≡ (contains s q || contains t q) = ap (λ v. contains v q) union ∙ contains-union cells_total s t q in
    let none : contains s q ≡ false = ap (λ v. contains v q) empty ∙ contains-empty cell_cmp q in
    grind arith

-- a union has the members of both
pub has_union : (s t u : Cells) → u ≡ set.union s t → (q : Cell) → Has u q ↔ (Has s q ⊎ Has t q)
has_union s t u union q =
    let whole : contains u q ≡ (contains s q || contains t q) = ap (λ v. contains v q) union ∙ contains-union cells_total s t q in grind arith

-- rows with the columns of the grid that they lacked have the cells of the grid that they lacked
pub complement_is : (shape : Extent) (on : List ℕ) (old rows : List (List ℕ)) → length old ≡ shape.height + 1
    → ((k : ℕ) → HasBit on k ↔ ((1 ≤ k) × (k ≤ shape.width)))
    → ((q : Cell) → InRows rows q ↔ ((1 ≤ q.row) × (q.row < length old) × HasBit on q.column × (InRows old q → ⊥))) → (q : Cell)
    → InRows rows q ↔ (IsOn shape q × (InRows old q → ⊥))
complement_is shape on old rows long columns cells q = grind arith

-- an empty worklist has the rows of the empty set
pub none_queued : (cells : CellsOn) (words : List ℕ) → cells.members ≡ set.empty → ((k : ℕ) → HasBit words k → ⊥) → AreRowsQueued cells words
none_queued cells words none clear = record {
  all = λ q h. absurd (has_empty q (rw none at h));
  within = λ k h. absurd (clear k h);
}
