-- The members of a set in reading order: there is exactly one such list. To find it, put the set's items into a map,
-- whose keys rise strictly. It is the only one, because lists that rise strictly and hold the same cells are equal, as
-- the keys of two maps with the same entries are. In such a list no cell is at two places.
use Rattle.std.proofs.Common.{◌≡◌, ℕ, zero, suc, Bool, true, false, ◌&&◌, ◌||◌, T, Option, None, Some, List, [], ◌∷◌, refl, sym, ◌∙◌, ap, subst}
use Rattle.std.specs.Prelude.{map, slice_get, is_some}
use Rattle.std.specs.List.{list_any, AllByRecursion}
use Rattle.std.specs.List.Sorted.{IsStrictlySortedBy}
use Rattle.std.specs.Ordering.{is_lt}
use Rattle.std.specs.declared.cmp.Ordering.{Ordering}
use Rattle.std.specs.declared.cmp.Ordering.TheVariants.{Less, Equal, Greater}
use Rattle.std.specs.FinMap.{FinMap, entries, entries_sorted, from_entries, keys, contains_key, get-from_entries, contains_key-keys}
use Rattle.std.specs.FinMap.Entries.{is_sorted, below_all, find, is_some-find, same_entries}
use Rattle.std.specs.FinSet.{contains, items, contains-items, contains-from_list}
use Rattle.std.proofs.lemmas.Bool.{false≢true}
use Rattle.std.proofs.lemmas.Option.{none-some, same_Some}
use Rattle.cellset.specs.Cell.{cell_cmp, Before}
use Rattle.cellset.specs.CellSet.{Cells}
use Rattle.cellset.specs.declared.cell.Cell.{Cell}
use Rattle.cellset.proofs.Members.{cells_total, exact_cells, same_cells, same, same_itself, same_or_other}
use Rattle.cellset.proofs.ReadingOrder.{before_itself}
use Rattle.play.specs.Counts.{IsInReadingOrder}
use Rattle.play.specs.Progress.{AreNumbered}

abbrev Marked : Type 0
Marked = Cell × Unit {0}

abbrev mark : Cell → Marked
mark c = (c, tt)

abbrev cell_of : Marked → Cell
cell_of e = e.0

both_true : (a b : Bool) → T (a && b) → T a × T b
both_true true b h = (tt, h)
both_true false b h = absurd h

true_both : (a b : Bool) → T a → T b → T (a && b)
true_both true b x y = y
true_both false b x y = absurd x

less_true : {o : Ordering} → o ≡ Less → T (is_lt o)
less_true e = subst (λ p. T (is_lt p)) (sym e) tt

true_less : (o : Ordering) → T (is_lt o) → o ≡ Less
true_less Less h = refl
true_less Equal h = absurd h
true_less Greater h = absurd h

-- ---- entries and cells
below_cells : (x : Cell) (es : List Marked) → T (below_all cell_cmp x es) → AllByRecursion (λ y. cell_cmp x y ≡ Less) (map cell_of es)
below_cells x [] h = tt
below_cells x (e ∷ es) h = let (first, rest) = both_true _ _ h in (true_less _ first, below_cells x es rest)

sorted_cells : (es : List Marked) → T (is_sorted cell_cmp es) → IsStrictlySortedBy cell_cmp (map cell_of es)
unfolding IsStrictlySortedBy
sorted_cells [] h = tt
sorted_cells (e ∷ es) h = let (first, rest) = both_true _ _ h in (below_cells e.0 es first, sorted_cells es rest)

below_marks : (x : Cell) (xs : List Cell) → AllByRecursion (λ y. cell_cmp x y ≡ Less) xs → T (below_all cell_cmp x (map mark xs))
below_marks x [] h = tt
below_marks x (y ∷ ys) h = true_both _ _ (less_true h.0) (below_marks x ys h.1)

sorted_marks : (xs : List Cell) → IsStrictlySortedBy cell_cmp xs → T (is_sorted cell_cmp (map mark xs))
unfolding IsStrictlySortedBy
sorted_marks [] h = tt
sorted_marks (x ∷ xs) h = true_both _ _ (below_marks x xs h.0) (sorted_marks xs h.1)

unmarked : (xs : List Cell) → map cell_of (map mark xs) ≡ xs
unmarked [] = refl
unmarked (x ∷ xs) = ap (λ ys. x ∷ ys) (unmarked xs)

found_mark : (q : Cell) (xs : List Cell) → is_some (find cell_cmp q (map mark xs)) ≡ list_any (same q) xs
found_mark q xs = is_some-find cell_cmp q (map mark xs) ∙ ap (list_any (same q)) (unmarked xs)

-- ---- there is such a list
sorted_map : Cells → FinMap cell_cmp (Unit {0})
sorted_map s = from_entries (map mark (items s))

pub in_order : Cells → List Cell
in_order s = keys (sorted_map s)

pub in_order_is : (s : Cells) → IsInReadingOrder (in_order s) s
unfolding in_order sorted_map
in_order_is s = record {
  sorted = sorted_cells (entries (sorted_map s)) (entries_sorted (sorted_map s));
  members = same_cells _ _ (λ q. contains-from_list cells_total (keys (sorted_map s)) q
      ∙ (sym (contains_key-keys (sorted_map s) q) ∙ (held q ∙ sym (contains-items s q))));
}
  where
    held : (q : Cell) → contains_key (sorted_map s) q ≡ list_any (same q) (items s)
    held q = ap is_some (get-from_entries cells_total (map mark (items s)) q) ∙ found_mark q (items s)

-- ---- and no other
marked_alike : (x y : Option (Unit {0})) → is_some x ≡ is_some y → x ≡ y
marked_alike None None e = refl
marked_alike None (Some v) e = absurd (false≢true e)
marked_alike (Some u) None e = absurd (false≢true (sym e))
marked_alike (Some u) (Some v) e = refl

pub one_order : (xs ys : List Cell) (s : Cells) → IsInReadingOrder xs s → IsInReadingOrder ys s → xs ≡ ys
one_order xs ys s a b =
    let alike = same_entries cell_cmp cells_total exact_cells (map mark xs) (map mark ys) (sorted_marks xs a.sorted) (sorted_marks ys b.sorted) found_alike in
    sym (unmarked xs) ∙ (ap (map cell_of) alike ∙ unmarked ys)
  where
    held : (q : Cell) → list_any (same q) xs ≡ list_any (same q) ys
    held q = sym (contains-from_list cells_total xs q) ∙ (ap (λ t. contains t q) (a.members ∙ sym b.members) ∙ contains-from_list cells_total ys q)

    found_alike : (q : Cell) → find cell_cmp q (map mark xs) ≡ find cell_cmp q (map mark ys)
    found_alike q = marked_alike _ _ (found_mark q xs ∙ (held q ∙ sym (found_mark q ys)))

-- ---- the places of its cells
below_at : (P : Cell → Type 0) (xs : List Cell) (n : ℕ) {c : Cell} → AllByRecursion P xs → slice_get xs n ≡ Some c → P c
below_at P [] n {c} all is = absurd (none-some c is)
below_at P (x ∷ xs) zero {c} all is = subst P (same_Some x c is) all.0
below_at P (x ∷ xs) (suc n) all is = below_at P xs n all.1 is

apart_in_order : (xs : List Cell) (n m : ℕ) {c : Cell} → IsStrictlySortedBy cell_cmp xs → slice_get xs n ≡ Some c → slice_get xs m ≡ Some c → n ≡ m
unfolding IsStrictlySortedBy
apart_in_order [] n m {c} sorted x y = absurd (none-some c x)
apart_in_order (z ∷ xs) zero zero sorted x y = refl
apart_in_order (z ∷ xs) zero (suc m) {c} sorted x y = before_itself c (below_at (Before c) xs m (rw (same_Some z c x) at sorted.0) y)
apart_in_order (z ∷ xs) (suc n) zero {c} sorted x y = before_itself c (below_at (Before c) xs n (rw (same_Some z c y) at sorted.0) x)
apart_in_order (z ∷ xs) (suc n) (suc m) sorted x y = ap suc (apart_in_order xs n m sorted.1 x y)

listed_at : (xs : List Cell) (n : ℕ) {c : Cell} → slice_get xs n ≡ Some c → list_any (same c) xs ≡ true
listed_at [] n {c} is = absurd (none-some c is)
listed_at (x ∷ xs) zero {c} is = ap (λ b. b || list_any (same c) xs) (ap (same c) (same_Some x c is) ∙ same_itself c)
listed_at (x ∷ xs) (suc n) {c} is = or_true (same c x) (list_any (same c) xs) (listed_at xs n is)
  where
    or_true : (a b : Bool) → b ≡ true → (a || b) ≡ true
    or_true true b h = refl
    or_true false b h = h

place_of : (xs : List Cell) (c : Cell) → list_any (same c) xs ≡ true → (n : ℕ) × (slice_get xs n ≡ Some c)
place_of [] c h = absurd (false≢true h)
place_of (x ∷ xs) c h =
    same_or_other c x
    (λ e. (0, ap Some (sym e)))
    (λ f. let (n, is) = place_of xs c (ap (λ b. b || list_any (same c) xs) (sym f) ∙ h) in (suc n, is))

pub numbered_in_order : {xs : List Cell} {s : Cells} → IsInReadingOrder xs s → AreNumbered xs s
numbered_in_order {xs} is = record {
  each = λ n c at. sym (ap (λ t. contains t c) is.members) ∙ (contains-from_list cells_total xs c ∙ listed_at xs n at);
  all = λ c has. place_of xs c (sym (contains-from_list cells_total xs c) ∙ (ap (λ t. contains t c) is.members ∙ has));
  apart = λ n m c x y. apart_in_order xs n m is.sorted x y;
}
