-- The list of the members that are left, which is what contracts see of an iterator over a set.
-- The cells of the grid are in reading order, so any filter of them is too. The members from a cell on begin with the
-- first of them, and go on with those from the next cell on.
use Rattle.std.proofs.Common.{◌≡◌, Bool, true, false, not, ◌&&◌, List, [], ◌∷◌, ◌++◌, Some, None, Option, refl, sym, ◌∙◌, ap, subst, append_assoc}
use Rattle.std.specs.Option.{SomeIff}
use Rattle.std.proofs.lemmas.Bool.{false≢true}
use Rattle.std.proofs.lemmas.List.{append-nil}
use Rattle.std.proofs.lemmas.List.Elements.{Contains-append_right}
use Rattle.std.proofs.lemmas.List.Kept.{IsStrictlySortedBy-filter}
use Rattle.std.specs.List.{Contains}
use Rattle.std.specs.declared.cmp.Ordering.TheVariants.{Less, Equal, Greater}
use Rattle.std.specs.Ordering.{is_lt}
use Rattle.std.specs.FinSet.{contains}
use Rattle.cellset.specs.Shape.{Extent}
use Rattle.cellset.specs.Cell.{Before, IsOn, IsNextCell, cell_at, cell_cmp}
use Rattle.cellset.specs.CellSet.{Cells, Has, IsFirstFrom}
use Rattle.cellset.specs.Grid.{grid_cells}
use Rattle.cellset.specs.Members.{AreMembersOf, is_left, members_left}
use Rattle.cellset.specs.declared.cell.Cell.{Cell}
use Rattle.cellset.proofs.Truth.{and_parts, never_true}
use Rattle.cellset.proofs.ReadingOrder.{none_past, before_itself, before_trans, grid_sorted, grid_has, grid_on}
use Rattle.cellset.proofs.Filters.{first_in, filter_kept, filter_from, filter_none, filter_first, in_front}

-- ---- the tests
abbrev passes : Cells → Option Cell → Cell → Bool
passes s from q = contains s q && is_left from q

left_test : (from q : Cell) → (Before q from → ⊥) → is_left (Some from) q ≡ true
left_test from q h = elim (cell_cmp q from) as (λ o. cell_cmp q from ≡ o
    → not (is_lt o) ≡ true) [ Less ↦ λ e. absurd (h e) | Equal ↦ λ _. refl | Greater ↦ λ _. refl ] refl

not_left : (from q : Cell) → Before q from → is_left (Some from) q ≡ false
not_left from q b = search

left_told : {G : Type 0} (from q : Cell) → is_left (Some from) q ≡ true → Before q from → G
left_told from q t b = absurd (false≢true (sym (not_left from q b) ∙ t))

passing : (s : Cells) (from : Option Cell) (q : Cell) → Has s q → is_left from q ≡ true → passes s from q ≡ true
passing s from q has left = search

-- ---- the list
pub none_at_end : (shape : Extent) (s : Cells) → members_left shape s None ≡ []
unfolding members_left
none_at_end shape s = filter_none (passes s None) (grid_cells shape)
    (λ q _. never_true (passes s None q) (λ t. false≢true (and_parts (contains s q) false t).1))

pub none_left : (shape : Extent) (s : Cells) (from : Cell) → IsFirstFrom s from None → members_left shape s (Some from) ≡ []
unfolding members_left
none_left shape s from none = filter_none (passes s (Some from)) (grid_cells shape) (λ q _. never_true (passes s (Some from) q) (λ t.
    let parts = and_parts (contains s q) (is_left (Some from) q) t in left_told from q parts.1 (none q parts.0)))

pub first_left : (shape : Extent) (s : Cells) (from m : Cell) (next : Option Cell) → IsOn shape m → IsFirstFrom s from (Some m) → IsNextCell shape m next
    → members_left shape s (Some from) ≡ m ∷ members_left shape s next
unfolding members_left
first_left shape s from m next on first after =
    filter_first cell_cmp (passes s (Some from)) (passes s next) (grid_cells shape) m (grid_sorted shape) (grid_has shape m on)
    (passing s (Some from) m first.0 (left_test from m first.1))
    (never_true (passes s next m) (λ t. before_next m (λ n b. b) next after (and_parts (contains s m) (is_left next m) t).1))
    (λ q h late. ap (λ b. contains s q && b) (left_test from q (λ early. first.1 (before_trans m q from late early))
    ∙ sym (after_next q (grid_on shape q h) late next after)))
    (λ q h early. (
      never_true (passes s (Some from) q) (λ t. let parts =
          and_parts (contains s q) (is_left (Some from) q) t in left_told from q parts.1 (first.2 q parts.0 early)),
      never_true (passes s next q) (λ t. before_next q (λ n b. before_trans q m n early b) next after (and_parts (contains s q) (is_left next q) t).1),
    ))
  where
    before_next : (q : Cell) → ((n : Cell) → Before m n → Before q n) → (next : Option Cell) → IsNextCell shape m next → is_left next q ≡ true → ⊥
    before_next q up None after t = false≢true t
    before_next q up (Some n) after t = left_told n q t (up n after.1)

    after_next : (q : Cell) → IsOn shape q → Before m q → (next : Option Cell) → IsNextCell shape m next → is_left next q ≡ true
    after_next q on_q late None after = absurd (after q on_q late)
    after_next q on_q late (Some n) after = left_test n q (after.2 q on_q late)

-- ---- from the first cell of the grid on all members are left
pub all_left : (shape : Extent) (s : Cells) (from : Option Cell) → ((q : Cell) → Has s q → IsOn shape q)
    → SomeIff from (IsOn shape (cell_at 1 1)) (cell_at 1 1) → AreMembersOf shape s (members_left shape s from)
unfolding members_left
all_left shape s from on start =
    let list = members_left shape s from in
    let has = λ (q : Cell) (h : Contains list q). (and_parts (contains s q) (is_left from q)
    (filter_from (passes s from) (grid_cells shape) q h).1).0 in
    record {
      exact = λ q. search (filter_kept, grid_has, passing, begun);
      on = λ q h. on q (has q h);
      in_order = IsStrictlySortedBy-filter cell_cmp (passes s from) (grid_cells shape) (grid_sorted shape);
    }
  where
    begun : (q : Cell) → Has s q → (from : Option Cell) → SomeIff from (IsOn shape (cell_at 1 1)) (cell_at 1 1) → is_left from q ≡ true
    begun q has None start = absurd (none_past shape None start q (on q has) tt)
    begun q has (Some c) start = left_test c q (λ early. none_past shape (Some c) start q (on q has) early)

-- ---- a loop over the members: those that came, the next one, and those that are left
module _ {shape : Extent} {s : Cells} (came left : List Cell) where
  pub next_has : (c : Cell) → AreMembersOf shape s (came ++ c ∷ left) → Has s c × IsOn shape c
  next_has c all =
      let there = Contains-append_right came (c ∷ left) c (first_in c left) in
      ((all.exact c).0 there, all.on c there)

  -- a member that comes before the next one came
  pub came_before : (c : Cell) → AreMembersOf shape s (came ++ c ∷ left) → (q : Cell) → Has s q → Before q c → Contains came q
  came_before c all q has early = in_front cell_cmp (before_itself {G = ⊥}) before_trans came left c q all.in_order ((all.exact q).1 has) early

  pub next_came : (c : Cell) → AreMembersOf shape s (came ++ c ∷ left) → AreMembersOf shape s ((came ++ c ∷ []) ++ left)
  next_came c all = subst (AreMembersOf shape s) (sym (append_assoc came (c ∷ []) left)) all

-- at the end every member came
pub all_came : (shape : Extent) (s : Cells) (came : List Cell) → AreMembersOf shape s (came ++ []) → AreMembersOf shape s came
all_came shape s came all = subst (AreMembersOf shape s) (append-nil came) all

-- the members that are left may be replaced by an equal list
pub goes_on : {shape : Extent} {cells : Cells} (came left next : List Cell) → left ≡ next → AreMembersOf shape cells (came ++ left)
    → AreMembersOf shape cells (came ++ next)
goes_on {shape = shape} {cells = cells} came left next e members = rw e at members
