-- Lists of cells, as sets and cell by cell.
use Rattle.std.proofs.Common.{◌≡◌, ℕ, ◌+◌, ◌<◌, ◌&&◌, List, [], ◌∷◌, ◌++◌, take, length, get_or, sym, ◌∙◌, ap}
use Rattle.std.proofs.lemmas.List.{take_more}
use Rattle.std.specs.List.Sorted.{IsPermutation}
use Rattle.std.proofs.lemmas.List.Sorted.{list_any-IsPermutation}
use Rattle.std.proofs.lemmas.Map.Views.{Contains-from_any, list_any-from_Contains}
use Rattle.std.specs.Cmp.{eq_by_cmp_equiv}
use Rattle.std.specs.List.{AllByRecursion, Contains}
use Rattle.std.specs.FinSet as set
use Rattle.std.specs.FinSet.{contains, contains-from_list, from_list_push}
use Rattle.cellset.specs.CellSet.{Cells, Has}
use Rattle.cellset.specs.SortedList.{set_of}
use Rattle.cellset.specs.declared.cell.Cell.{Cell}
use Rattle.cellset.proofs.Members.{cells_total, exact_cells, same, same_cells, same_true, insert_within}

-- ---- the set of a list
pub listed_has : (xs : List Cell) (q : Cell) → Contains xs q → Has (set_of xs) q
listed_has xs q listed = contains-from_list cells_total xs q ∙ list_any-from_Contains (eq_by_cmp_equiv cells_total) q xs listed

pub has_listed : (xs : List Cell) (q : Cell) → Has (set_of xs) q → Contains xs q
has_listed xs q has = Contains-from_any same_true q xs (sym (contains-from_list cells_total xs q) ∙ has)

-- the set doesn't depend on the order of the list
pub set_of_permutation : (xs ys : List Cell) → IsPermutation xs ys → set_of xs ≡ set_of ys
set_of_permutation xs ys alike = same_cells _ _ (λ q.
    contains-from_list cells_total xs q ∙ list_any-IsPermutation (same q) xs ys alike ∙ sym (contains-from_list cells_total ys q))

-- the set of a list's first cells with the next one
pub set_more : (xs : List Cell) (i : ℕ) (d : Cell) → i < length xs → set_of (take (i + 1) xs) ≡ set.insert (set_of (take i xs)) (get_or xs i d)
set_more xs i d lt = ap set_of (take_more xs i d lt) ∙ from_list_push cells_total exact_cells (take i xs) (get_or xs i d)

pub subset_more : (xs : List Cell) (t : Cells) (i : ℕ) (d : Cell) → i < length xs
    → set.is_subset (set_of (take (i + 1) xs)) t ≡ (set.is_subset (set_of (take i xs)) t && contains t (get_or xs i d))
subset_more xs t i d lt = ap (λ s. set.is_subset s t) (set_more xs i d lt) ∙ insert_within (set_of (take i xs)) t (get_or xs i d)

-- ---- what holds of every cell of two lists, and of the two joined
pub all_join : (P : Cell → Type 0) (l r : List Cell) → AllByRecursion P l → AllByRecursion P r → AllByRecursion P (l ++ r)
all_join P [] r a b = b
all_join P (x ∷ l) r a b = search (all_join P l r a.1 b)

pub all_left : (P : Cell → Type 0) (l r : List Cell) → AllByRecursion P (l ++ r) → AllByRecursion P l
all_left P [] r a = tt
all_left P (x ∷ l) r a = search (all_left P l r a.1)

pub all_right : (P : Cell → Type 0) (l r : List Cell) → AllByRecursion P (l ++ r) → AllByRecursion P r
all_right P [] r a = a
all_right P (x ∷ l) r a = all_right P l r a.1
