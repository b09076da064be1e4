-- Lists of cells as sets. The set of a list has its elements and no others, so a fact about every element is one about every member. A loop
-- over the list builds the set of the elements that it has passed, and each turn adds one. The set of the cells of coordinates is that of a
-- list of cells.
use Rattle.std.proofs.Common.{◌≡◌, ℕ, zero, suc, ◌+◌, ◌≤◌, ◌<◌, List, [], ◌∷◌, ◌++◌, length, get_or, take, refl, sym, ◌∙◌, ap, subst, inl, inr, arith}
use Rattle.std.specs.{Prelude.map, List.All, List.Contains}
use Rattle.std.specs.FinSet as set
use Rattle.std.proofs.lemmas.List.{get_or-map, length-map, map_push, take_all}
use Rattle.std.proofs.lemmas.List.Elements.{All-same, Contains-append_right}
use Rattle.cellset.specs.{Cell.cell_cmp, CellSet.Has, CellSet.Lacks, declared.cell.Cell.Cell}
use Rattle.cellset.proofs.CellLists.{has_listed, set_more}
use Rattle.cellset.proofs.Members.{cells_total, exact_cells, inserted, kept_by_insert, has_insert, has_empty}
use Rattle.answers.specs.declared.pattern.Coord.{Coord}
use Rattle.certificates.specs.CellLists.{cell_of, cells_of, cells_in}

abbrev pub no_cell : Cell
no_cell = record { row = 0; column = 0 }

-- The members of the set of a list are the elements of the list.
pub in_list : (xs : List Cell) (i : ℕ) (d : Cell) → i < length xs → Has (cells_in xs) (get_or xs i d)
in_list [] i d lt = absurd (omega arith)
in_list (x ∷ xs) zero d lt = inserted (set.from_list xs) x
in_list (x ∷ xs) (suc i) d lt = kept_by_insert (set.from_list xs) x _ (in_list xs i d (omega arith))

pub each_in : (P : Cell → Type 0) (xs : List Cell) → All P xs → (c : Cell) → Has (cells_in xs) c → P c
each_in P xs all c has = grind (arith, has_listed)

-- What holds of each element that a loop over the whole list passed holds of each member of the list's set.
pub each_of : (P : Cell → Type 0) (xs : List Cell) (n : ℕ) → length xs ≤ n → All P (take n xs) → (c : Cell) → Has (cells_in xs) c → P c
each_of P xs n past all = each_in P xs (All-same P xs (take n xs) (sym (take_all n xs past)) all)

pub list_all : (xs : List Cell) (n : ℕ) → length xs ≤ n → cells_in (take n xs) ≡ cells_in xs
list_all xs n past = ap cells_in (take_all n xs past)

-- ---- what loops over cells need, in forms that `grind` takes up
pub read_in : (xs : List Cell) (i : ℕ) → i < length xs → (get_or xs i no_cell ≡ get_or xs i no_cell) × Has (cells_in xs) (get_or xs i no_cell)
read_in xs i lt = search (in_list)

pub empty_lacks : (c : Cell) → Lacks set.empty c
empty_lacks c = set.contains-empty cell_cmp c

pub next_in : (xs : List Cell) (i : ℕ) → i < length xs → cells_in (take (i + 1) xs) ≡ set.insert (cells_in (take i xs)) (get_or xs i no_cell)
next_in xs i lt = set_more xs i no_cell lt

pub ruleset over_cells = (read_in, next_in, list_all, has_insert, empty_lacks)

-- ---- lists of coordinates
-- The cell of each coordinate is in the set of a list of coordinates.
pub in_cells : (coords : List Coord) (i : ℕ) (d : Coord) → i < length coords → Has (cells_of coords) (cell_of (get_or coords i d))
in_cells coords i d lt =
    let long = length-map coords cell_of in
    subst (Has (cells_of coords)) (get_or-map cell_of coords i d (cell_of d) lt) (in_list (map cell_of coords) i (cell_of d) (omega arith))

-- Each cell in the set of a list of coordinates is the cell of one of them.
pub of_cells : (coords : List Coord) (c : Cell) → Has (cells_of coords) c → (q : Coord) × Contains coords q × (cell_of q ≡ c)
of_cells [] c has = has_empty c has
of_cells (x ∷ xs) c has =
    elim (has_insert (cells_of xs) (cell_of x) c has) [
      | inl e ↦ (x, (0, omega arith, refl), sym e)
      | inr rest ↦ let q = of_cells xs c rest in (q.0, Contains-append_right (x ∷ []) xs q.0 q.1, q.2)
    ]

pub cells_push : (xs : List Coord) (x : Coord) → cells_of (xs ++ x ∷ []) ≡ set.insert (cells_of xs) (cell_of x)
cells_push xs x = ap set.from_list (map_push cell_of xs x) ∙ set.from_list_push cells_total exact_cells (map cell_of xs) (cell_of x)
