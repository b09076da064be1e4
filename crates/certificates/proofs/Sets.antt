-- Members of sets of cells. The library says by a test which cells the result of an operation has. These lemmas say it by cases, so that a
-- proof goes from members to members. Two sets with the same members are one value, so an equation between sets follows from cases in
-- both directions.
use Rattle.std.proofs.Common.{◌≡◌, ◌≢◌, Bool, true, not, ◌&&◌, ◌||◌, false, refl, sym, ◌∙◌, ap, inl, inr, ◌⊎◌}
use Rattle.std.{specs.Prelude.◌==◌, proofs.lemmas.Bool.eqb-true, proofs.lemmas.Bool.false≢true}
use Rattle.std.specs.FinSet as set
use Rattle.std.specs.FinSet.{contains, contains-insert, contains-remove, contains-union, contains-intersection, contains-difference}
use Rattle.cellset.specs.{CellSet.Cells, CellSet.Has, CellSet.Lacks, declared.cell.Cell.Cell}
use Rattle.cellset.proofs.Members.{cells_total, same, same_cells, same_itself, same_or_other, not_both, inserted, kept_by_insert, has_insert, kept_by_remove, has_remove, has_empty, same_members, lacks_where}
use Rattle.cellset.proofs.Truth.{left_true, right_true, or_cases, and_parts, not_true, either}

pub other_member : (s : Cells) (c k : Cell) → Has s c → Lacks s k → c ≢ k
other_member s c k has lacks e = not_both s k (rw e at has) lacks

-- a set with one cell more lacks each other cell that it lacked
pub lacks_insert : (s : Cells) (k c : Cell) → (c ≡ k → ⊥) → Lacks s c → Lacks (set.insert s k) c
lacks_insert s k c ne lacks = lacks_where (set.insert s k) c (λ has. either (has_insert s k c has) ne (λ h. not_both s c h lacks))

pub removed_lacks : (s : Cells) (c : Cell) → Lacks (set.remove s c) c
removed_lacks s c = lacks_where (set.remove s c) c (λ h. (has_remove s c c h).0 refl)

-- a member that is removed and inserted again leaves the set as it was
pub put_back : (s : Cells) (c : Cell) → Has s c → set.insert (set.remove s c) c ≡ s
put_back s c has = same_members _ s
    (λ q h. elim (has_insert (set.remove s c) c q h) [ inl e ↦ rw e has | inr r ↦ (has_remove s c q r).1 ])
    (λ q h. same_or_other q c {G = Has (set.insert (set.remove s c) c) q}
    (λ e. rw e (inserted (set.remove s c) c))
    (λ f. kept_by_insert (set.remove s c) c q (kept_by_remove s c q (λ e. false≢true (sym f ∙ (ap (λ x. same x c) e ∙ same_itself c))) h)))

-- ---- unions, intersections and differences
and_both : (a b : Bool) → a ≡ true → b ≡ true → (a && b) ≡ true
and_both a b h k = search

pub other_where : (s : Cells) (c k : Cell) → Lacks s c → Has s k → c ≢ k
other_where s c k lacks has e = not_both s k has (rw e at lacks)

pub has_intersection : (s t : Cells) (c : Cell) → Has (set.intersection s t) c → Has s c × Has t c
has_intersection s t c h = and_parts _ _ (sym (contains-intersection cells_total s t c) ∙ h)

pub in_intersection : (s t : Cells) (c : Cell) → Has s c → Has t c → Has (set.intersection s t) c
in_intersection s t c h k = contains-intersection cells_total s t c ∙ and_both _ _ h k

pub has_union : (s t : Cells) (c : Cell) → Has (set.union s t) c → Has s c ⊎ Has t c
has_union s t c h = or_cases _ _ (sym (contains-union cells_total s t c) ∙ h) inl inr

pub in_union_left : (s t : Cells) (c : Cell) → Has s c → Has (set.union s t) c
in_union_left s t c h = contains-union cells_total s t c ∙ left_true _ _ h

pub in_union_right : (s t : Cells) (c : Cell) → Has t c → Has (set.union s t) c
in_union_right s t c h = contains-union cells_total s t c ∙ right_true (contains s c) _ h

pub has_difference : (s t : Cells) (c : Cell) → Has (set.difference s t) c → Has s c × Lacks t c
has_difference s t c h = let parts = and_parts _ _ (sym (contains-difference cells_total s t c) ∙ h) in (parts.0, not_true _ parts.1)

pub in_difference : (s t : Cells) (c : Cell) → Has s c → Lacks t c → Has (set.difference s t) c
in_difference s t c h l = contains-difference cells_total s t c ∙ and_both _ _ h (ap not l)

less_more : (a b e : Bool) → (not e && (a && not b)) ≡ (a && not (e || b))
less_more true b true = refl
less_more false b true = refl
less_more a b false = refl

-- A set less no cells is the set. A set less one cell more is the difference less this cell.
pub difference_none : (s : Cells) → set.difference s set.empty ≡ s
difference_none s = same_members _ s
    (λ c h. (has_difference s set.empty c h).0)
    (λ c h. in_difference s set.empty c h (lacks_where set.empty c (λ e. has_empty c e)))

pub difference_more : (s t : Cells) (k : Cell) → set.remove (set.difference s t) k ≡ set.difference s (set.insert t k)
difference_more s t k = same_cells _ _ (λ c. simp (contains-remove cells_total, contains-difference cells_total, contains-insert cells_total)
    (less_more (contains s c) (contains t c) (same c k)))

-- Cells that compare equal are one cell.
pub same_cell : (a b : Cell) → true ≡ ((a.row == b.row) && (a.column == b.column)) → a ≡ b
same_cell a b h =
    let parts = and_parts (a.row == b.row) (a.column == b.column) (sym h) in
    λ i. record { row = eqb-true a.row b.row parts.0 i; column = eqb-true a.column b.column parts.1 i }
