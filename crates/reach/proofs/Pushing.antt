-- Pushes (`PushesTo`): steps to the cells to which a box is pushed from here.
-- Along a row a box can leave a column only if both columns beside it are free. So pushes go along runs of such columns, and end
-- at most one column beyond a run.
use Rattle.std.proofs.Common.{◌≡◌, ℕ, ◌+◌, ◌-◌, ◌*◌, ◌<◌, ◌≤◌, List, [], length, get_or, refl, sym, subst, ap, inl, inr, arith}
use Rattle.std.specs.Prelude.{◌⊎◌, ◌↔◌}
use Rattle.std.proofs.lemmas.Bool.{cases_lt}
use Rattle.cellset.specs.Cell.{neighbor, opposite, cell_at}
use Rattle.cellset.specs.declared.cell.Cell.{Cell}
use Rattle.cellset.specs.declared.dir.Dir.{Dir}
use Rattle.cellset.specs.declared.dir.Dir.TheVariants.{L, U, R, D}
use Rattle.cellset.proofs.Truth.{either}
use Rattle.reach.specs.Bits.{HasBit, IsFilled}
use Rattle.reach.specs.BitRows.{InRows}
use Rattle.reach.proofs.Carries.{none_past}
use Rattle.reach.proofs.Runs.{filled_seed, filled_left, filled_right, filled_along}
use Rattle.reach.specs.Reached.{Reached, at_seed, by_step, PushesTo, IsBetween, IsMoved}
use Rattle.reach.specs.Grown.{AreInside, Passes, in_rows}
use Rattle.reach.proofs.Lines.{filled_more}
use Rattle.reach.proofs.Walking.{of_test}

-- ---- a row that was slid along itself
module _ (n : ℕ) (free row mids moved right left once twice : List ℕ) (free_long : length free ≡ n)
    (are_mids : (k : ℕ) → HasBit mids k ↔ IsBetween (HasBit free) k)
    (is_moved : (k : ℕ) → HasBit moved k ↔ IsFilled (HasBit mids) (HasBit row) k)
    (is_right : (k : ℕ) → HasBit right k ↔ ((k < 64 * n) × ((1 ≤ k) × HasBit moved (k - 1))))
    (is_left : (k : ℕ) → HasBit left k ↔ ((k < 64 * n) × HasBit moved (k + 1)))
    (is_once : (k : ℕ) → HasBit once k ↔ (HasBit row k ⊎ (HasBit right k × HasBit right k)))
    (is_twice : (k : ℕ) → HasBit twice k ↔ (HasBit once k ⊎ (HasBit left k × HasBit left k))) where
  mid_of : (k : ℕ) → HasBit mids k → IsBetween (HasBit free) k
  mid_of k h = (are_mids k).0 h

  below_end : (k : ℕ) → HasBit free (k + 1) → k + 1 < 64 * n
  below_end k h = elim (cases_lt (k + 1) (64 * n)) [ inl low ↦ low | inr past ↦ absurd (none_past free n (k + 1) free_long past h) ]

  to_mid : (k : ℕ) → IsBetween (HasBit free) k → HasBit mids k
  to_mid k h = (are_mids k).1 h

  mid_at : (k : ℕ) → IsFilled (HasBit mids) (HasBit row) k → HasBit mids k
  mid_at k (inl b) = b.run.all k b.below (omega arith)
  mid_at k (inr a) = a.run.all k (omega arith) a.above

  beside : (j k : ℕ) → HasBit moved j → (k ≡ j + 1) ⊎ (k + 1 ≡ j) → IsMoved (HasBit free) (HasBit row) k
  beside j k h side = let filled = (is_moved j).0 h in search (filled_more, mid_of, mid_at)

  pub slid_added : (k : ℕ) → HasBit twice k → HasBit row k ⊎ IsMoved (HasBit free) (HasBit row) k
  slid_added k h = either ((is_twice k).0 h)
      (λ first. either ((is_once k).0 first) (λ old. inl old)
      (λ (b, _). let (_, (some, at)) = (is_right k).0 b in inr (beside (k - 1) k at (inl (omega arith)))))
      (λ (b, _). inr (beside (k + 1) k ((is_left k).0 b).1 (inr (omega arith))))

  is_filled : (k : ℕ) → HasBit twice k → HasBit mids k → IsFilled (HasBit mids) (HasBit row) k
  is_filled k h mid = either ((is_twice k).0 h)
      (λ first. either ((is_once k).0 first)
      (λ old. filled_seed (HasBit mids) (HasBit row) k old mid)
      (λ (b, _).
      let (_, (some, at)) = (is_right k).0 b in
      let e : k ≡ k - 1 + 1 = omega arith in
      rw e (filled_right (HasBit mids) (HasBit row) (k - 1) ((is_moved (k - 1)).0 at) (rw e at mid))))
      (λ (b, _).
      let e : k ≡ k + 1 - 1 = omega arith in
      rw e (filled_left (HasBit mids) (HasBit row) (k + 1) ((is_moved (k + 1)).0 ((is_left k).0 b).1) (rw e at mid)))

  pub slid_settled : (k : ℕ) → HasBit twice k → IsBetween (HasBit free) k → HasBit twice (k - 1) × HasBit twice (k + 1)
  slid_settled k h mid =
      let (some, before, after) = mid in
      let end = below_end k after in
      let here : HasBit moved k = (is_moved k).1 (is_filled k h (to_mid k mid)) in
      let e : k ≡ k + 1 - 1 = omega arith in
      let f : k ≡ k - 1 + 1 = omega (arith, some) in
      let on : HasBit right (k + 1) = (is_right (k + 1)).1 (end, (omega arith, subst (HasBit moved) e here)) in
      let back : HasBit left (k - 1) = (is_left (k - 1)).1 (omega (arith, end), subst (HasBit moved) f here) in
      ((is_twice (k - 1)).1 (inr (back, back)), (is_twice (k + 1)).1 (inl ((is_once (k + 1)).1 (inr (on, on)))))

-- ---- steps

-- pushes along a row
module _ (free : List (List ℕ)) (y : ℕ) (S : ℕ → Type 0) where
  abbrev IsHere : ℕ → Type 0
  IsHere k = Reached (PushesTo (Passes (in_rows free))) (λ c. (c.row ≡ y) × S c.column) (cell_at k y)

  abbrev IsMid : ℕ → Type 0
  IsMid = IsBetween (HasBit (get_or free y []))

  next : (j k : ℕ) → (k ≡ j + 1) ⊎ (k + 1 ≡ j) → IsMid j → IsHere j → IsHere k
  next j k (inl e) (some, before, after) here =
      by_step (cell_at j y) here (record {
        dir = R;
        next = ap (λ (n : ℕ). cell_at n y) e;
        behind = before.is;
        ahead = (rw (← e) at after).is;
      })
  next j k (inr e) (some, before, after) here =
      let p : j - 1 ≡ k = omega arith in
      by_step (cell_at j y) here (record {
        dir = L;
        next = ap (λ (n : ℕ). cell_at n y) (sym p);
        behind = after.is;
        ahead = (rw p at before).is;
      })

  pub moved_here : (k : ℕ) → S k ⊎ IsMoved (HasBit (get_or free y [])) S k → IsHere k
  moved_here k (inl seed) = at_seed (refl, seed)
  moved_here k (inr (j, filled, mid, side)) =
      next j k side mid (filled_along IsMid S IsHere (λ i seed. at_seed (refl, seed)) (λ i m beside here _ from. next i m beside here from) j filled)

module _ (free : List (List ℕ)) (y : ℕ) (New : ℕ → Type 0) (inside : AreInside free)
    (closed : (k : ℕ) → New k → IsBetween (HasBit (get_or free y [])) k → New (k - 1) × New (k + 1)) (j k : ℕ) where
  closed_by : (d : Dir) → cell_at k y ≡ neighbor (cell_at j y) d → InRows free (neighbor (cell_at j y) (opposite d)) → InRows free (cell_at k y) → New j → New k
  closed_by L e behind ahead h = grind arith
  closed_by U e behind ahead h = grind arith
  closed_by R e behind ahead h =
      let column : k ≡ j + 1 = ap (λ (q : Cell). q.column) e in
      let some : 1 ≤ j - 1 = (inside (cell_at (j - 1) y) behind).1 in
      subst New (sym column) (closed j h (omega arith, behind, rw column at ahead)).1
  closed_by D e behind ahead h = grind arith

  pub pushes_closed : PushesTo (Passes (in_rows free)) (cell_at j y) (cell_at k y) → New j → New k
  pushes_closed p h = search (closed_by, of_test)

-- pushes to the row above or below
module _ (free : List (List ℕ)) (from to k : ℕ) where
  there : (to + 1 ≡ from) ⊎ (to ≡ from + 1) → InRows free (cell_at k (from - 1)) × InRows free (cell_at k (from + 1))
      → PushesTo (Passes (in_rows free)) (cell_at k from) (cell_at k to)
  there (inl e) (above, below) = grind (arith, next)
  there (inr e) (above, below) = grind (arith, next)

  apart : (to + 1 ≡ from) ⊎ (to ≡ from + 1) → to ≡ from → ⊥
  apart (inl a) row = omega arith
  apart (inr b) row = omega arith

  back : (d : Dir) → (to + 1 ≡ from) ⊎ (to ≡ from + 1) → cell_at k to ≡ neighbor (cell_at k from) d → InRows free (neighbor (cell_at k from) (opposite d))
      → InRows free (cell_at k to) → InRows free (cell_at k (from - 1)) × InRows free (cell_at k (from + 1))
  back L side e behind ahead = grind (arith, apart)
  back U side e behind ahead = grind arith
  back R side e behind ahead = grind (arith, apart)
  back D side e behind ahead = grind arith

  pub pushes_across : (to + 1 ≡ from) ⊎ (to ≡ from + 1) → (InRows free (cell_at k (from - 1)) × InRows free (cell_at k (from + 1))) ↔ PushesTo
      (Passes (in_rows free)) (cell_at k from) (cell_at k to)
  pushes_across side = grind (arith, there, back, of_test)
