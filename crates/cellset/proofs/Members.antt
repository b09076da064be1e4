-- What the operations of a set of cells do to its members.
-- Reading order is total and distinguishes any two cells, so the laws of finite sets hold of sets of cells:
-- two sets with the same members are equal, and each operation is known by what it does to membership.
-- A membership is a test that is true or false, so each proof goes by cases on the test.
use Rattle.std.proofs.Common.{◌≡◌, ◌≢◌, ◌⊎◌, Bool, true, false, not, ◌&&◌, ◌||◌, refl, sym, ◌∙◌, ap, inl, inr}
use Rattle.std.proofs.lemmas.Bool.{false≢true, and_from}
use Rattle.std.specs.Cmp.Derive.{one_truth}
use Rattle.std.specs.Ordering.{eq_by_cmp, is_eq}
use Rattle.std.specs.Cmp.{Equal-is, tied_itself}
use Rattle.std.specs.FinSet as set
use Rattle.std.specs.FinSet.{contains, items, contains-items, contains-insert, contains-remove, contains-empty, contains-union, contains-is_subset, is_subset-contains}
use Rattle.std.specs.List.{Contains}
use Rattle.std.specs.Cmp.{eq_by_cmp_equiv}
use Rattle.std.proofs.lemmas.Map.Views.{Contains-from_any, list_any-from_Contains}
use Rattle.std.proofs.Math.Bool.{and-false, or-false}
use Rattle.cellset.proofs.Truth.{left_true, right_true, or_cases, and_parts, not_true, or_front}
use Rattle.cellset.specs.declared.cell.Cell.{Cell}
use Rattle.std.specs.Cmp.{IsTotalOrder}
use Rattle.std.proofs.lemmas.Cmp.{on_total, then_total, nat_cmp_total}
use Rattle.std.proofs.lemmas.Map.Lookups.{CmpEqualImpliesEq, exact_pairs, exact_unsigned}
use Rattle.std.specs.Ordering.{nat_cmp}
use Rattle.cellset.specs.Cell.{cell_cmp}
use Rattle.cellset.specs.CellSet.{Cells, Has, Lacks, only}

-- cells that compare as equal are equal
pub exact_cells : CmpEqualImpliesEq cell_cmp
exact_cells a b h = ap (λ p. record { row = p.0; column = p.1 })
    (exact_pairs nat_cmp nat_cmp exact_unsigned exact_unsigned (a.row, a.column) (b.row, b.column) h)

pub cells_total : IsTotalOrder cell_cmp
cells_total = then_total (on_total (λ c. c.row) nat_cmp_total) (on_total (λ c. c.column) nat_cmp_total)

-- sets with the same members are equal
pub same_cells : (s t : Cells) → ((c : Cell) → contains s c ≡ contains t c) → s ≡ t
same_cells s t h = set.same_set cells_total exact_cells s t h

-- a cell is in the set or not
pub has_or_lacks : (s : Cells) (c : Cell) {G : Type 0} → (Has s c → G) → (Lacks s c → G) → G
has_or_lacks s c {G} if_has if_lacks = elim (contains s c) as (λ b. contains s c ≡ b → G) [ true ↦ if_has | false ↦ if_lacks ] refl

pub not_both : {G : Type 0} (s : Cells) (c : Cell) → Has s c → Lacks s c → G
not_both s c has lacks = absurd (false≢true (sym lacks ∙ has))

-- two sets that have each other's members are equal
pub same_members : (s t : Cells) → ((c : Cell) → Has s c → Has t c) → ((c : Cell) → Has t c → Has s c) → s ≡ t
same_members s t there back = same_cells s t (λ c. has_or_lacks s c
    (λ h. h ∙ sym (there c h))
    (λ l. l ∙ has_or_lacks t c (λ h. not_both s c (back c h) l) (λ k. sym k)))

pub lacks_where : (s : Cells) (c : Cell) → (Has s c → ⊥) → Lacks s c
lacks_where s c never = has_or_lacks s c (λ h. absurd (never h)) (λ l. l)

abbrev pub same : Cell → Cell → Bool
same a b = eq_by_cmp cell_cmp a b

pub same_true : (a b : Cell) → same a b ≡ true → a ≡ b
same_true a b h = exact_cells a b ((Equal-is (cell_cmp a b)).0 h)

pub same_itself : (a : Cell) → same a a ≡ true
same_itself a = ap is_eq (tied_itself cells_total a)

pub same_or_other : (a b : Cell) {G : Type 0} → (a ≡ b → G) → (same a b ≡ false → G) → G
same_or_other a b {G} if_same if_other = elim (same a b) as (λ v. same a b ≡ v → G) [ true ↦ λ h. if_same (same_true a b h) | false ↦ if_other ] refl

pub other_false : (a b : Cell) → a ≢ b → same a b ≡ false
other_false a b other = same_or_other a b (λ e. absurd (other e)) (λ h. h)

-- a set has the cell that was inserted
pub inserted : (s : Cells) (k : Cell) → Has (set.insert s k) k
inserted s k = contains-insert cells_total s k k ∙ left_true _ _ (same_itself k)

pub kept_by_insert : (s : Cells) (k c : Cell) → Has s c → Has (set.insert s k) c
kept_by_insert s k c has = contains-insert cells_total s k c ∙ right_true (same c k) _ has

pub has_insert : (s : Cells) (k c : Cell) → Has (set.insert s k) c → (c ≡ k) ⊎ Has s c
has_insert s k c h = or_cases (same c k) _ (sym (contains-insert cells_total s k c) ∙ h) (λ e. inl (same_true c k e)) (λ has. inr has)

-- a set keeps every cell but the one that was removed
pub kept_by_remove : (s : Cells) (k c : Cell) → c ≢ k → Has s c → Has (set.remove s k) c
kept_by_remove s k c other has = contains-remove cells_total s k c ∙ (λ i. not (other_false c k other i) && has i)

pub has_remove : (s : Cells) (k c : Cell) → Has (set.remove s k) c → (c ≢ k) × Has s c
has_remove s k c h =
    let parts = and_parts (not (same c k)) _ (sym (contains-remove cells_total s k c) ∙ h) in
    ((λ e. absurd (false≢true (sym (not_true _ parts.0) ∙ (ap (λ x. same c x) (sym e) ∙ same_itself c)))), parts.1)

pub has_empty : {G : Type 0} (c : Cell) → Has set.empty c → G
has_empty c h = absurd (false≢true (sym (contains-empty cell_cmp c) ∙ h))

-- a member of a set is among its items
pub has_item : (s : Cells) (c : Cell) → Has s c → Contains (items s) c
has_item s c has = Contains-from_any same_true c (items s) (sym (contains-items s c) ∙ has)

pub item_has : (s : Cells) (c : Cell) → Contains (items s) c → Has s c
item_has s c listed = contains-items s c ∙ list_any-from_Contains (eq_by_cmp_equiv cells_total) c (items s) listed

-- the set of one cell has that cell alone
pub has_only : (k c : Cell) → Has (only k) c → c ≡ k
has_only k c h = elim (has_insert set.empty k c h) [ inl e ↦ e | inr has ↦ has_empty c has ]

pub lacks_only : (k c : Cell) → c ≢ k → Lacks (only k) c
lacks_only k c other = has_or_lacks (only k) c (λ has. absurd (other (has_only k c has))) (λ l. l)

-- a set doesn't change if one of its members is inserted
pub insert_again : (s : Cells) (c : Cell) → Has s c → set.insert s c ≡ s
insert_again s c has = same_cells _ _ (λ q. contains-insert cells_total s c q ∙ again q)
  where
    again : (q : Cell) → (same q c || contains s q) ≡ contains s q
    again q = same_or_other q c (λ e. right_true (same q c) (contains s q) (ap (contains s) e ∙ has) ∙ sym (ap (contains s) e ∙ has))
        (λ f. ap (λ b. b || contains s q) f)

-- a set doesn't change if a cell is removed that it lacks
pub remove_absent : (s : Cells) (c : Cell) → Lacks s c → set.remove s c ≡ s
remove_absent s c lacks = same_cells _ _ (λ q. contains-remove cells_total s c q ∙ again q)
  where
    again : (q : Cell) → (not (same q c) && contains s q) ≡ contains s q
    again q = same_or_other q c
        (λ e. let out = ap (contains s) e ∙ lacks in ap (λ b. not (same q c) && b) out ∙ and-false (not (same q c)) ∙ sym out)
        (λ f. ap (λ b. not b && contains s q) f)

-- a cell that the set lacked is inserted and removed again
pub remove_inserted : (s : Cells) (c : Cell) → Lacks s c → set.remove (set.insert s c) c ≡ s
remove_inserted s c lacks = same_members _ s
    (λ q h. let (other, has) = has_remove (set.insert s c) c q h in elim (has_insert s c q has) [ inl e ↦ absurd (other e) | inr was ↦ was ])
    (λ q h. kept_by_remove (set.insert s c) c q (λ e. not_both s q h (ap (contains s) e ∙ lacks)) (kept_by_insert s c q h))

-- ---- unions and parts
pub union_empty : (s : Cells) → s ≡ set.union s set.empty
union_empty s = same_cells _ _ (λ q. sym (contains-union cells_total s set.empty q ∙ ap (λ b. contains s q || b) (contains-empty cell_cmp q)
    ∙ or-false (contains s q)))

pub empty_union : (s : Cells) → set.union set.empty s ≡ s
empty_union s = same_cells _ _ (λ q. contains-union cells_total set.empty s q ∙ ap (λ b. b || contains s q) (contains-empty cell_cmp q))

pub union_insert : (s t : Cells) (c : Cell) → set.insert (set.union s t) c ≡ set.union s (set.insert t c)
union_insert s t c = same_cells _ _ (λ q.
    contains-insert cells_total (set.union s t) c q ∙ ap (λ b. same q c || b) (contains-union cells_total s t q)
    ∙ or_front (same q c) (contains s q) (contains t q)
    ∙ ap (λ b. contains s q || b) (sym (contains-insert cells_total t c q)) ∙ sym (contains-union cells_total s (set.insert t c) q))

pub empty_within : (t : Cells) → true ≡ set.is_subset set.empty t
empty_within t = sym (contains-is_subset cells_total set.empty t (λ q has. has_empty q has))

pub insert_within : (s t : Cells) (c : Cell) → set.is_subset (set.insert s c) t ≡ (set.is_subset s t && contains t c)
insert_within s t c = one_truth _ _
    (λ h. let there = is_subset-contains cells_total (set.insert s c) t h in
    and_from _ _ (contains-is_subset cells_total s t (λ q has. there q (kept_by_insert s c q has))) (there c (inserted s c)))
    (λ h. let both = and_parts _ _ h in contains-is_subset cells_total (set.insert s c) t
    (λ q has. elim (has_insert s c q has) [ inl e ↦ ap (contains t) e ∙ both.1 | inr in_s ↦ is_subset-contains cells_total s t both.0 q in_s ]))
