-- The number of members of a set. A fact that holds of the empty set, and of a set with one cell more whenever it holds of the set, holds
-- of every set of cells, since the members can be removed one by one. A new cell makes the number one more, and a removed member makes
-- it one less. So a subset has at most as many members, and two sets have together as many as their union and their intersection.
use Rattle.std.proofs.Common.{◌≡◌, ◌≢◌, ◌+◌, ◌≤◌, true, ◌||◌, cond, List, [], ◌∷◌, sym, ◌∙◌, ap, subst, inl, inr, arith}
use Rattle.std.{proofs.lemmas.Bool.false≢true, specs.FinSet.items, specs.FinSet.contains-items, specs.FinSet.len-empty, specs.List.list_any}
use Rattle.std.specs.FinSet as set
use Rattle.cellset.specs.{Cell.cell_cmp, CellSet.Cells, CellSet.Has, CellSet.Lacks, declared.cell.Cell.Cell}
use Rattle.cellset.proofs.Members.{cells_total, same, same_or_other, has_or_lacks, not_both, inserted, kept_by_insert, has_insert, kept_by_remove, has_remove, has_empty, same_members, insert_again, lacks_where, union_empty, union_insert}
use Rattle.certificates.proofs.Sets.{other_member, removed_lacks, put_back, has_intersection, in_intersection, has_union, in_union_left, in_union_right}

pub len-insert_new : (s : Cells) (c : Cell) → Lacks s c → set.len (set.insert s c) ≡ set.len s + 1
len-insert_new s c lacks = set.len-insert cells_total s c ∙ ap (λ b. cond b (set.len s) (set.len s + 1)) lacks

pub len-remove_member : (s : Cells) (c : Cell) → Has s c → set.len s ≡ set.len (set.remove s c) + 1
len-remove_member s c has = ap set.len (sym (put_back s c has)) ∙ len-insert_new (set.remove s c) c (removed_lacks s c)

-- ---- a fact that holds of every set
module _ (P : Cells → Type 0) (none : P set.empty) (more : (s : Cells) (k : Cell) → Lacks s k → P s → P (set.insert s k)) where
  within_list : (ks : List Cell) (s : Cells) → ((q : Cell) → Has s q → list_any (same q) ks ≡ true) → P s
  within_list [] s within =
      let is_empty : set.empty ≡ s = same_members set.empty s (λ q h. has_empty q h) (λ q h. absurd (false≢true (within q h))) in
      subst P is_empty none
  within_list (k ∷ ks) s within = has_or_lacks s k
      (λ has. rw (put_back s k has) at (more (set.remove s k) k (removed_lacks s k)
      (within_list ks (set.remove s k) (λ q h. let old = has_remove s k q h in rest q old.0 (within q old.1)))))
      (λ lacks. within_list ks s (λ q h. rest q (other_member s q k h lacks) (within q h)))
    where
      rest : (q : Cell) → q ≢ k → list_any (same q) (k ∷ ks) ≡ true → list_any (same q) ks ≡ true
      rest q other h = same_or_other q k {G = list_any (same q) ks ≡ true} (λ e. absurd (other e)) (λ f. ap (λ b. b || list_any (same q) ks) (sym f) ∙ h)

  pub of_every_set : (s : Cells) → P s
  of_every_set s = within_list (items s) s (λ q h. sym (contains-items s q) ∙ h)

-- ---- a subset has at most as many members
abbrev IsFewer : Cells → Type 0
IsFewer s = (t : Cells) → ((c : Cell) → Has s c → Has t c) → set.len s ≤ set.len t

none_fewer : IsFewer set.empty
none_fewer t within = let none = len-empty cell_cmp in omega arith

more_fewer : (s : Cells) (k : Cell) → Lacks s k → IsFewer s → IsFewer (set.insert s k)
more_fewer s k lacks fewer t within =
    let rest = fewer (set.remove t k) (λ c h. kept_by_remove t k c (other_member s c k h lacks) (within c (kept_by_insert s k c h))) in
    let one_more = len-insert_new s k lacks in
    let one_fewer = len-remove_member t k (within k (inserted s k)) in
    omega arith

pub len-within : (s t : Cells) → ((c : Cell) → Has s c → Has t c) → set.len s ≤ set.len t
len-within s = of_every_set IsFewer none_fewer more_fewer s

-- ---- two sets have together as many members as their union and their intersection
abbrev Adds : Cells → Cells → Type 0
Adds s t = set.len (set.union s t) + set.len (set.intersection s t) ≡ set.len s + set.len t

none_adds : (s : Cells) → Adds s set.empty
none_adds s =
    let no_common : set.intersection s set.empty ≡ set.empty = same_members _ set.empty
    (λ c h. (has_intersection s set.empty c h).1) (λ c h. has_empty c h) in
    let union_len = ap set.len (union_empty s) in
    let common_len = ap set.len no_common in
    let none = len-empty cell_cmp in
    omega arith

-- If the second of two sets gets a cell of the first one, they have one more cell in common.
pub common_more : (s t : Cells) (k : Cell) → Has s k → Lacks t k → set.len (set.intersection s (set.insert t k)) ≡ set.len (set.intersection s t) + 1
common_more s t k has lacks = ap set.len more ∙
    len-insert_new (set.intersection s t) k (lacks_where (set.intersection s t) k (λ h. not_both t k (has_intersection s t k h).1 lacks))
  where
    more : set.intersection s (set.insert t k) ≡ set.insert (set.intersection s t) k
    more = same_members _ _ (λ c h. grind (arith, has_intersection, has_insert, inserted, kept_by_insert, in_intersection))
        (λ c h. grind (arith, has_intersection, has_insert, inserted, kept_by_insert, in_intersection))

-- Then the union stays.
shared_adds : (s t : Cells) (k : Cell) → Has s k → Lacks t k → Adds s t → Adds s (set.insert t k)
shared_adds s t k has lacks adds =
    let union_len = ap set.len (sym (union_insert s t k) ∙ insert_again (set.union s t) k (in_union_left s t k has)) in
    let common_len = common_more s t k has lacks in
    let t_len = len-insert_new t k lacks in
    omega arith

-- If the second of two sets gets a cell that the first one lacks, the union has one more, and the intersection stays.
apart_adds : (s t : Cells) (k : Cell) → Lacks s k → Lacks t k → Adds s t → Adds s (set.insert t k)
apart_adds s t k off lacks adds =
    let same_common : set.intersection s (set.insert t k) ≡ set.intersection s t = same_members _ _
    (λ c h. grind (arith, has_intersection, has_insert, in_intersection, not_both))
    (λ c h. grind (arith, has_intersection, kept_by_insert, in_intersection)) in
    let not_there = lacks_where (set.union s t) k (λ h. elim (has_union s t k h) [ inl in_s ↦ not_both s k in_s off | inr in_t ↦ not_both t k in_t lacks ]) in
    let union_len = ap set.len (sym (union_insert s t k)) ∙ len-insert_new (set.union s t) k not_there in
    let common_len = ap set.len same_common in
    let t_len = len-insert_new t k lacks in
    omega arith

pub len_union : (s t : Cells) → set.len (set.union s t) + set.len (set.intersection s t) ≡ set.len s + set.len t
len_union s t = of_every_set (Adds s) (none_adds s) (λ u k lacks adds. has_or_lacks s k (λ has. shared_adds s u k has lacks adds)
    (λ off. apart_adds s u k off lacks adds)) t

pub len_union_right : (s t : Cells) → set.len t ≤ set.len (set.union s t)
len_union_right s t = search (len-within, in_union_right)
