-- Lists from which an item is taken out, whose place the last one takes.
use Rattle.std.proofs.Common.{◌≡◌, ◌⊎◌, ℕ, zero, suc, ◌<◌, List, [], ◌∷◌, length, get_or, sym, inl, inr, arith}
use Rattle.std.{specs.List.Contains, specs.List.swap_remove}
use Rattle.std.proofs.lemmas.Grind.{common_steps}
use Rattle.std.proofs.lemmas.List.Elements.{Contains-append_cases, Contains-append_right}
use Rattle.std.proofs.lemmas.List.Sorted.{Contains-permutation, IsPermutation-swap_remove, IsPermutation-sym}

module _ {X : Type 0} where
  only_one : (x y : X) → Contains (x ∷ []) y → y ≡ x
  only_one x y (zero, lt, is) = sym is
  only_one x y (suc k, lt, is) = absurd (omega arith)

  pub none_in : (x : X) → Contains [] x → ⊥
  none_in x (k, lt, is) = absurd (omega arith)

  -- What is left was there before.
  pub taken_only : (xs ys : List X) (i : ℕ) (x : X) → i < length xs → x ≡ get_or xs i x → ys ≡ swap_remove xs i x → (y : X) → Contains ys y → Contains xs y
  taken_only xs ys i x lt read is y has =
      Contains-permutation (x ∷ swap_remove xs i x) xs y (IsPermutation-sym _ _ (IsPermutation-swap_remove xs i x lt read))
      (Contains-append_right (x ∷ []) (swap_remove xs i x) y (rw is at has))

  -- What stands before the item stays where it is.
  pub taken_before : (xs ys : List X) (i j : ℕ) (x d : X) → i < length xs → j < i → ys ≡ swap_remove xs i x → get_or ys j d ≡ get_or xs j d
  taken_before xs ys i j x d lt low is = grind (arith, common_steps)

  -- What was there before is left, but for the item.
  pub taken_kept : (xs ys : List X) (i : ℕ) (x : X) → i < length xs → x ≡ get_or xs i x → ys ≡ swap_remove xs i x → (y : X) → Contains xs y →
      Contains ys y ⊎ (y ≡ x)
  taken_kept xs ys i x lt read is y has =
      elim (Contains-append_cases (x ∷ []) (swap_remove xs i x) y (Contains-permutation xs (x ∷ swap_remove xs i x) y (IsPermutation-swap_remove xs i x lt read) has)) [
        | inl first ↦ inr (only_one x y first)
        | inr rest ↦ inl (rw is rest)
      ]
