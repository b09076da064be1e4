-- How many boxes are off the goals. They are a set: the boxes without the goals. A replay counts them at its end: it
-- goes over the goals and subtracts one for each goal with a box. So the count is that of the boxes without the goals
-- passed so far.
-- The number is 0 exactly if every box is on a goal. A push takes a box out of the set of boxes and puts one in.
use Rattle.std.proofs.Math.Bool.{and-false}
use Rattle.std.proofs.Common.{◌≡◌, ◌≢◌, ℕ, ◌+◌, ◌-◌, ◌≤◌, List, [], ◌∷◌, ◌++◌, Bool, true, false, not, ◌&&◌, ◌||◌, refl, sym, ◌∙◌, ap, arith}
use Rattle.std.specs.List.{list_any, AllByRecursion}
use Rattle.std.specs.List.Sorted.{IsStrictlySortedBy}
use Rattle.std.specs.FinSet as set
use Rattle.std.specs.FinSet.{from_list, contains, contains-insert, contains-remove, contains-difference, contains-empty, contains-from_list, len-insert}
use Rattle.std.specs.FinSet.{len-remove, len-empty, empty_of_len}
use Rattle.std.proofs.lemmas.Bool.{false≢true}
use Rattle.std.proofs.lemmas.Cmp.{eq_by_cmp_equiv}
use Rattle.std.proofs.lemmas.Map.Views.{list_any-from_Contains, Contains-from_any}
use Rattle.cellset.specs.Shape.{Extent}
use Rattle.cellset.specs.Cell.{cell_cmp, Before}
use Rattle.cellset.specs.CellSet.{Cells, Has, Lacks}
use Rattle.cellset.specs.Members.{AreMembersOf}
use Rattle.cellset.specs.declared.cell.Cell.{Cell}
use Rattle.cellset.proofs.Members.{cells_total, same_cells, same, same_true, same_or_other, has_or_lacks, lacks_where, not_both, has_remove}
use Rattle.cellset.proofs.MemberLists.{all_came}
use Rattle.cellset.proofs.ReadingOrder.{before_other_back}
use Rattle.cellset.proofs.Truth.{or_front}
use Rattle.board.specs.Game.{moved}

-- ---- a set is not empty if it has a member
some_in : (s : Cells) (c : Cell) → Has s c → set.len s ≢ 0
some_in s c has none = false≢true (sym (ap (λ t. contains t c) (empty_of_len s none) ∙ contains-empty cell_cmp c) ∙ has)

-- ---- one less
len_less : (s : Cells) (c : Cell) → Has s c → set.len (set.remove s c) + 1 ≡ set.len s
len_less s c has =
    let left = len-remove cells_total s c in
    grind (arith, some_in)

-- ---- a push
pub len_moved : (boxes : Cells) (from to : Cell) → Has boxes from → Lacks boxes to → set.len (moved boxes from to) ≡ set.len boxes
len_moved boxes from to has free =
    let less = len_less boxes from has in
    let lacks : Lacks (set.remove boxes from) to = lacks_where (set.remove boxes from) to (λ h. not_both boxes to (has_remove boxes from to h).1 free) in
    let more = len-insert cells_total (set.remove boxes from) to in
    grind arith

-- ---- no box off the goals
module _ (goals : Cells) where
  abbrev off : Cells → Cells
  off boxes = set.difference boxes goals

  off_has : (boxes : Cells) (q : Cell) → contains (off boxes) q ≡ (contains boxes q && not (contains goals q))
  off_has boxes q = contains-difference cells_total boxes goals q

  pub off_none : (boxes : Cells) → set.len (off boxes) ≡ 0 → (c : Cell) → Has boxes c → Has goals c
  off_none boxes zero_len c has =
      has_or_lacks goals c (λ goal. goal)
      (λ lacks. absurd (false≢true (
      sym (ap (λ s. contains s c) (empty_of_len (off boxes) zero_len) ∙ contains-empty cell_cmp c)
      ∙ (off_has boxes c ∙ ((λ i. has i && not (lacks i)))))))

  pub none_off : (boxes : Cells) → ((c : Cell) → Has boxes c → Has goals c) → set.len (off boxes) ≡ 0
  none_off boxes all = ap set.len (same_cells (off boxes) set.empty (λ q. off_has boxes q ∙ (here q ∙ sym (contains-empty cell_cmp q)))) ∙ len-empty cell_cmp
    where
      here : (q : Cell) → (contains boxes q && not (contains goals q)) ≡ false
      here q = has_or_lacks boxes q (λ has. ap (λ b. contains boxes q && not b) (all q has) ∙ and-false (contains boxes q))
          (λ lacks. ap (λ b. b && not (contains goals q)) lacks)

-- ---- the count, one goal after the other
module _ (boxes seen : Cells) (m : Cell) where
  -- a box is off one goal more if it is neither on that goal nor on a goal seen before
  more_has : (q : Cell) → contains (set.difference boxes (set.insert seen m)) q ≡ (contains boxes q && not (same q m || contains seen q))
  more_has q = contains-difference cells_total boxes (set.insert seen m) q ∙ ap (λ b. contains boxes q && not b) (contains-insert cells_total seen m q)

  -- with one goal more, the boxes off the goals lose the box on that goal
  without_box : set.difference boxes (set.insert seen m) ≡ set.remove (set.difference boxes seen) m
  without_box = same_cells _ _ (λ q. more_has q ∙ (swap (contains boxes q) (same q m) (contains seen q)
      ∙ sym (contains-remove cells_total (set.difference boxes seen) m q ∙ ap (λ b. not (same q m) && b) (contains-difference cells_total boxes seen q))))
    where
      swap : (a b c : Bool) → (a && not (b || c)) ≡ (not b && (a && not c))
      swap true true c = refl
      swap true false c = refl
      swap false true c = refl
      swap false false c = refl

  -- with one goal more and no box on it, the boxes off the goals are the same
  without_none : Lacks boxes m → set.difference boxes (set.insert seen m) ≡ set.difference boxes seen
  without_none lacks = same_cells _ _ (λ q. more_has q ∙ (same_or_other q m
      (λ e. grind (arith, same))
      (λ f. ap (λ b. contains boxes q && not (b || contains seen q)) f)
      ∙ sym (contains-difference cells_total boxes seen q)))

-- the set of the goals that came
abbrev pub set_of : List Cell → Cells
set_of came = from_list came

pub came_more : (came : List Cell) (m : Cell) → set_of (came ++ m ∷ []) ≡ set.insert (set_of came) m
came_more came m = same_cells _ _ (λ q. contains-from_list cells_total (came ++ m ∷ []) q
    ∙ (any_more came q ∙ sym (contains-insert cells_total (set_of came) m q ∙ ap (λ b. same q m || b) (contains-from_list cells_total came q))))
  where
    any_more : (xs : List Cell) (q : Cell) → list_any (same q) (xs ++ m ∷ []) ≡ (same q m || list_any (same q) xs)
    any_more [] q = refl
    any_more (x ∷ xs) q = ap (λ b. same q x || b) (any_more xs q) ∙ or_front (same q x) (same q m) (list_any (same q) xs)

-- the next element of a strictly sorted list didn't come before
not_again : (came : List Cell) (m : Cell) (left : List Cell) → IsStrictlySortedBy cell_cmp (came ++ m ∷ left) → list_any (same m) came ≡ false
unfolding IsStrictlySortedBy
not_again [] m left sorted = refl
not_again (x ∷ came) m left sorted = ap (λ b. b || list_any (same m) came) (before_other_back x m (first came sorted.0)) ∙ not_again came m left sorted.1
  where
    first : (came : List Cell) → AllByRecursion (Before x) (came ++ m ∷ left) → Before x m
    first [] h = h.0
    first (y ∷ came) h = first came h.1

pub all_came_set : {shape : Extent} {goals : Cells} {came : List Cell} → AreMembersOf shape goals came → set_of came ≡ goals
all_came_set {goals} {came} all = same_cells (set_of came) goals (λ q. contains-from_list cells_total came q ∙ has_or_lacks goals q
    (λ has. list_any-from_Contains (eq_by_cmp_equiv cells_total) q came ((all.exact q).1 has) ∙ sym has)
    (λ lacks. elim (list_any (same q) came) as (λ v. list_any (same q) came ≡ v → v ≡ contains goals q) [
      | true ↦ λ some. not_both goals q ((all.exact q).0 (Contains-from_any (λ x y e. same_true x y e) q came some)) lacks
      | false ↦ λ _. sym lacks
    ] refl))

module _ (shape : Extent) (goals boxes : Cells) (came : List Cell) where
  pub counted_start : set.len boxes ≡ set.len (set.difference boxes (set_of []))
  counted_start = ap set.len (same_cells boxes (set.difference boxes (set_of []))
      (λ q. sym (contains-difference cells_total boxes (set_of []) q
      ∙ (ap (λ b. contains boxes q && not b) (contains-from_list cells_total [] q) ∙ and_true (contains boxes q)))))
    where
      and_true : (a : Bool) → (a && true) ≡ a
      and_true true = refl
      and_true false = refl

  module _ (m : Cell) (left : List Cell) (all : AreMembersOf shape goals (came ++ m ∷ left)) (count : ℕ)
      (number : count ≡ set.len (set.difference boxes (set_of came))) where
    lacks_next : Lacks (set_of came) m
    lacks_next = contains-from_list cells_total came m ∙ not_again came m left all.in_order

    -- a box on the next goal is off the goals that came
    still_off : Has boxes m → Has (set.difference boxes (set_of came)) m
    still_off box = contains-difference cells_total boxes (set_of came) m ∙ (λ i. box i && not (lacks_next i))

    pub counted_some : Has boxes m → 1 ≤ count
    counted_some box = grind (arith, some_in, still_off)

    pub counted_box : Has boxes m → count - 1 ≡ set.len (set.difference boxes (set_of (came ++ m ∷ [])))
    counted_box box = grind (arith, len_less, still_off, came_more, without_box)

    -- the count stays right after a goal without a box
    pub counted_none : Lacks boxes m → count ≡ set.len (set.difference boxes (set_of (came ++ m ∷ [])))
    counted_none lacks = search (came_more, without_none)

  pub counted_end : {count : ℕ} → AreMembersOf shape goals (came ++ []) → count ≡ set.len (set.difference boxes (set_of came))
      → count ≡ set.len (set.difference boxes goals)
  counted_end all number = number ∙ ap (λ s. set.len (set.difference boxes s)) (all_came_set (all_came shape goals came all))
