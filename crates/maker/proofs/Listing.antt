-- Lists of the cells of a set in reading order, and that a text can spell them.
-- A list in order has each cell once, so it is as long as the set. Each coordinate belongs to a cell of the grid, and a text can spell
-- every such coordinate.
use Rattle.std.proofs.Common.{◌≡◌, zero, suc, ◌<◌, List, [], ◌∷◌, ◌++◌, length, refl, ap, subst, inl, inr, arith}
use Rattle.std.specs.Prelude.{map}
use Rattle.std.specs.List.Sorted.{IsStrictlySortedBy}
use Rattle.std.specs.declared.cmp.Ordering.TheVariants.{Less}
use Rattle.std.specs.List.{Contains, AllByRecursion}
use Rattle.std.specs.FinSet as set
use Rattle.std.specs.FinSet.{len-empty}
use Rattle.std.proofs.lemmas.List.{map-append}
use Rattle.std.proofs.lemmas.List.Elements.{Contains-append_right}
use Rattle.cellset.specs.Shape.{Extent, HasSides}
use Rattle.cellset.specs.Cell.{IsOn, Before, cell_cmp}
use Rattle.cellset.specs.CellSet.{Cells, Has}
use Rattle.cellset.specs.declared.cell.Cell.{Cell}
use Rattle.cellset.proofs.Members.{inserted, kept_by_insert, has_empty, lacks_where, same_members}
use Rattle.cellset.proofs.ReadingOrder.{sorted_len}
use Rattle.cellset.proofs.Filters.{first_in, in_cases, later_in, of_all}
use Rattle.cellset.proofs.Truth.{either}
use Rattle.cellset.specs.Members.{AreMembersOf}
use Rattle.answers.specs.declared.pattern.Coord.{Coord}
use Rattle.answers.specs.declared.pattern.Pattern.{Pattern}
use Rattle.answers.specs.Grammar.{IsCell, IsCellList, IsBefore, AreInOrder, said_pattern}
use Rattle.certificates.specs.CellLists.{cell_of, cells_of}
use Rattle.answers.proofs.TakenCells.{later}
use Rattle.certificates.proofs.CellLists.{in_cells, in_list, of_cells}
use Rattle.certificates.proofs.Counts.{len-insert_new}
use Rattle.cellset.proofs.CellLists.{has_listed}
use Rattle.answers.specs.Canonical.{made_pattern, lone_patterns}
use Rattle.maker.specs.Made.{coord_of}

-- Each coordinate of a list belongs to a cell of its set.
pub listed_cell : (coords : List Coord) (x : Coord) → Contains coords x → Has (cells_of coords) (cell_of x)
listed_cell coords x (k, within, is) = grind (arith, in_cells)

-- A list in order stays in order if a coordinate that comes after all others is appended.
pub in_order_push : (coords : List Coord) (x : Coord) → AreInOrder coords → ((y : Coord) → Contains coords y → IsBefore y x) → AreInOrder (coords ++ x ∷ [])
in_order_push [] x order before = tt
in_order_push (a ∷ []) x order before = (before a (0, omega arith, refl), tt)
in_order_push (a ∷ b ∷ coords) x order before = (order.0, in_order_push (b ∷ coords) x order.1 (λ y h. before y (later_in a (b ∷ coords) y h)))

before_trans : (a b c : Coord) → IsBefore a b → IsBefore b c → IsBefore a c
before_trans a b c (inl up) (inl down) = grind arith
before_trans a b c (inl up) (inr row) = grind arith
before_trans a b c (inr row) (inl down) = grind arith
before_trans a b c (inr row) (inr also) = grind arith

pub not_around : (a b : Coord) → IsBefore a b → IsBefore b a → ⊥
not_around a b (inl up) (inl down) = omega arith
not_around a b (inl up) (inr row) = omega arith
not_around a b (inr row) (inl down) = omega arith
not_around a b (inr row) (inr also) = omega arith

-- The first coordinate of a list in order comes before all others.
pub after_first : (a : Coord) (xs : List Coord) → AreInOrder (a ∷ xs) → (x : Coord) → Contains xs x → IsBefore a x
after_first a [] order x (k, within, is) = absurd (omega arith)
after_first a (b ∷ xs) order x (zero, within, is) = subst (IsBefore a) is order.0
after_first a (b ∷ xs) order x (suc k, within, is) = before_trans a b x order.0 (after_first b xs order.1 x (k, omega arith, is))

-- A list in order has as many coordinates as its set has cells.
pub in_order_len : (coords : List Coord) → AreInOrder coords → length coords ≡ set.len (cells_of coords)
in_order_len [] order = let none = len-empty cell_cmp in omega arith
in_order_len (x ∷ coords) order =
    let rest = in_order_len coords (later x coords order) in
    let more = len-insert_new (cells_of coords) (cell_of x) (lacks_where (cells_of coords) (cell_of x) twice) in
    omega arith
  where
    twice : Has (cells_of coords) (cell_of x) → ⊥
    twice has =
        let (y, there, is) = of_cells coords (cell_of x) has in
        let before = rw (ap coord_of is) at (after_first x coords order y there) in
        not_around x x before before

-- Each earlier member comes before the next member.
pub came_earlier : (came left : List Cell) (m q : Cell) → IsStrictlySortedBy cell_cmp (came ++ m ∷ left) → Contains came q → Before q m
unfolding IsStrictlySortedBy
came_earlier [] left m q sorted (k, within, is) = absurd (omega arith)
came_earlier (c ∷ came) left m q sorted h = either (in_cases c came q h)
    (λ e. rw e (of_all (λ z. cell_cmp c z ≡ Less) (came ++ m ∷ left) m sorted.0 (Contains-append_right came (m ∷ left) m (first_in m left))))
    (came_earlier came left m q sorted.1)

-- ---- the members of a set, as an iterator returns them
-- The list of a set's members is as long as the set, because it is in order.
pub members_count : {shape : Extent} {cells : Cells} (listed : List Cell) → AreMembersOf shape cells listed → length listed ≡ set.len cells
members_count {cells = cells} listed members = grind (arith, same_members, has_listed, in_list, sorted_len)

-- ---- the pattern of each cell of the list alone
pub lone_push : (patterns : List Pattern) (coords : List Coord) (p : Pattern) (x : Coord)
    → map said_pattern patterns ≡ lone_patterns coords → said_pattern p ≡ made_pattern (x ∷ [])
    → map said_pattern (patterns ++ p ∷ []) ≡ lone_patterns (coords ++ x ∷ [])
lone_push patterns coords p x is one = grind (arith, map-append)

-- ---- the list as a text spells it
each_spelled : (shape : Extent) → HasSides shape.width shape.height → (coords : List Coord)
    → ((q : Cell) → Has (cells_of coords) q → IsOn shape q) → AllByRecursion IsCell coords
each_spelled shape sides [] on = tt
each_spelled shape sides (x ∷ coords) on =
    let here = on (cell_of x) (inserted (cells_of coords) (cell_of x)) in (
      record {
        column_low = here.left;
        column_high = omega arith;
        row_low = here.top;
        row_high = omega arith;
      },
      each_spelled shape sides coords (λ q h. on q (kept_by_insert (cells_of coords) (cell_of x) q h)),
    )

not_empty : (coords : List Coord) (c : Cell) → Has (cells_of coords) c → 0 < length coords
not_empty [] c has = has_empty c has
not_empty (x ∷ coords) c has = omega arith

pub is_cell_list : (shape : Extent) → HasSides shape.width shape.height → (coords : List Coord)
    → ((q : Cell) → Has (cells_of coords) q → IsOn shape q) → AreInOrder coords → (c : Cell) → Has (cells_of coords) c → IsCellList coords
is_cell_list shape sides coords on order c has = search (not_empty, each_spelled)
