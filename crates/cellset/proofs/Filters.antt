-- Elements of lists, lists in strict order, and what a filter keeps of them.
-- Suppose that two tests agree on everything after an element, that both fail on everything before it, and that only
-- the first passes the element itself. Then the first filter keeps that element, followed by what the second keeps.
use Rattle.std.proofs.Common.{◌≡◌, zero, suc, Bool, true, false, cond, List, [], ◌∷◌, ◌++◌, refl, sym, ◌∙◌, ap, inl, arith}
use Rattle.std.specs.Prelude.{◌⊎◌}
use Rattle.std.specs.List.{Contains, AllByRecursion, filter}
use Rattle.std.specs.List.Sorted.{IsStrictlySortedBy}
use Rattle.std.specs.declared.cmp.Ordering.{Ordering}
use Rattle.std.specs.declared.cmp.Ordering.TheVariants.{Less}
use Rattle.std.proofs.lemmas.List.Elements.{All-contains, All-contains_itself, All-filter, All-from_recursion, All-weaker, Contains-append_cases, filter_passes, recursion_from_All}
use Rattle.cellset.proofs.Truth.{either}

module _ {X : Type 0} where
  -- ---- elements
  pub first_in : (x : X) (xs : List X) → Contains (x ∷ xs) x
  first_in x xs = (zero, omega arith, refl)

  pub later_in : (y : X) (xs : List X) (x : X) → Contains xs x → Contains (y ∷ xs) x
  later_in y xs x (k, within, is) = (suc k, omega arith, is)

  pub in_cases : (y : X) (xs : List X) (x : X) → Contains (y ∷ xs) x → (x ≡ y) ⊎ Contains xs x
  in_cases y xs x (zero, within, is) = inl (sym is)
  in_cases y xs x (suc k, within, is) = grind arith

  pub all_of : (P : X → Type 0) (xs : List X) → ((x : X) → Contains xs x → P x) → AllByRecursion P xs
  all_of P xs f = recursion_from_All P xs (All-weaker (Contains xs) P f xs (All-contains_itself xs))

  pub of_all : (P : X → Type 0) (xs : List X) (x : X) → AllByRecursion P xs → Contains xs x → P x
  of_all P xs x a h = All-contains P xs x (All-from_recursion P xs a) h

  -- ---- filters
  pub filter_kept : (t : X → Bool) (xs : List X) (x : X) → Contains xs x → t x ≡ true → Contains (filter t xs) x
  filter_kept t [] x (k, within, is) pass = absurd (omega arith)
  filter_kept t (y ∷ xs) x h pass = either (in_cases y xs x h)
      (λ e. grind arith)
      (λ later. elim (t y) as (λ b. Contains (cond b (y ∷ filter t xs) (filter t xs)) x) [
        | true ↦ later_in y (filter t xs) x (filter_kept t xs x later pass)
        | false ↦ filter_kept t xs x later pass
      ])

  pub filter_from : (t : X → Bool) (xs : List X) (x : X) → Contains (filter t xs) x → Contains xs x × (t x ≡ true)
  filter_from t xs x h = (
    All-contains (Contains xs) (filter t xs) x (All-filter t (Contains xs) xs (All-contains_itself xs)) h,
    All-contains (λ y. t y ≡ true) (filter t xs) x (filter_passes t xs) h,
  )

  pub filter_none : (t : X → Bool) (xs : List X) → ((x : X) → Contains xs x → t x ≡ false) → filter t xs ≡ []
  filter_none t [] f = refl
  filter_none t (x ∷ xs) f = grind (arith, filter_none t xs (λ y h. f y (later_in x xs y h)))

  pub filter_same : (t u : X → Bool) (xs : List X) → ((x : X) → Contains xs x → t x ≡ u x) → filter t xs ≡ filter u xs
  filter_same t u [] f = refl
  filter_same t u (x ∷ xs) f = grind (arith, filter_same t u xs (λ y h. f y (later_in x xs y h)))

module _ {X : Type 0} (R : X → X → Ordering) where
  pub sorted_append : (xs ys : List X) → IsStrictlySortedBy R xs → IsStrictlySortedBy R ys
      → ((x y : X) → Contains xs x → Contains ys y → R x y ≡ Less) → IsStrictlySortedBy R (xs ++ ys)
  unfolding IsStrictlySortedBy
  sorted_append [] ys s u f = u
  sorted_append (x ∷ xs) ys s u f = (
    all_of (λ y. R x y ≡ Less) (xs ++ ys) (λ y h. either (Contains-append_cases xs ys y h) (of_all (λ z. R x z ≡ Less) xs y s.0) (f x y (first_in x xs))),
    sorted_append xs ys s.1 u (λ a b h k. f a b (later_in x xs a h) k),
  )

  pub filter_first : (t u : X → Bool) (xs : List X) (m : X) → IsStrictlySortedBy R xs → Contains xs m → t m ≡ true → u m ≡ false
      → ((x : X) → Contains xs x → R m x ≡ Less → t x ≡ u x) → ((x : X) → Contains xs x → R x m ≡ Less → (t x ≡ false) × (u x ≡ false))
      → filter t xs ≡ m ∷ filter u xs
  unfolding IsStrictlySortedBy
  filter_first t u [] m s (k, within, is) pass fail later earlier = absurd (omega arith)
  filter_first t u (y ∷ ys) m s h pass fail later earlier = either (in_cases y ys m h)
      (λ e. ap (λ b. cond b (y ∷ filter t ys) (filter t ys)) (sym (ap t e) ∙ pass)
      ∙ (λ i. sym e i ∷ filter_same t u ys (λ x k. later x (later_in y ys x k) (rw e (of_all (λ z. R y z ≡ Less) ys x s.0 k))) i)
      ∙ ap (λ b. m ∷ cond b (y ∷ filter u ys) (filter u ys)) (sym (sym (ap u e) ∙ fail)))
      (λ k. let before = earlier y (first_in y ys) (of_all (λ z. R y z ≡ Less) ys m s.0 k) in
      grind (arith, filter_first t u ys m s.1 k pass fail (λ x l. later x (later_in y ys x l)) (λ x l. earlier x (later_in y ys x l))))

  -- in a sorted list, what is less than an element comes before it
  pub in_front : ((x : X) → R x x ≡ Less → ⊥) → ((x y z : X) → R x y ≡ Less → R y z ≡ Less → R x z ≡ Less) → (came rest : List X) (x y : X)
      → IsStrictlySortedBy R (came ++ x ∷ rest) → Contains (came ++ x ∷ rest) y → R y x ≡ Less → Contains came y
  unfolding IsStrictlySortedBy
  in_front itself trans [] rest x y s h early = absurd (either (in_cases x rest y h)
      (λ e. itself x (rw e at early))
      (λ k. itself x (trans x y x (of_all (λ z. R x z ≡ Less) rest y s.0 k) early)))
  in_front itself trans (c ∷ came) rest x y s h early = either (in_cases c (came ++ x ∷ rest) y h)
      (λ e. rw e (first_in c came))
      (λ k. later_in c came y (in_front itself trans came rest x y s.1 k early))
