-- Pulls (`PullsTo`): steps to the cells from which a push leads here.
use Rattle.std.proofs.Common.{◌≡◌, ℕ, ◌+◌, ◌-◌, ◌≤◌, List, [], get_or, ap, inl, inr, arith, subst}
use Rattle.std.specs.Prelude.{◌⊎◌, ◌↔◌}
use Rattle.cellset.specs.Cell.{neighbor, opposite, cell_at}
use Rattle.cellset.specs.declared.cell.Cell.{Cell}
use Rattle.cellset.specs.declared.dir.Dir.{Dir}
use Rattle.cellset.specs.declared.dir.Dir.TheVariants.{L, U, R, D}
use Rattle.reach.specs.Bits.{HasBit, IsFilled}
use Rattle.reach.specs.BitRows.{InRows}
use Rattle.reach.specs.Reached.{PullsTo, IsBetween}
use Rattle.reach.specs.Grown.{AreInside, Passes, in_rows}
use Rattle.reach.proofs.Lines.{filled_beside}
use Rattle.reach.proofs.Walking.{of_test}

-- a pull along a row enters each column between two free ones
pub pulls_enter : (free : List (List ℕ)) (y j k : ℕ) → (k ≡ j + 1) ⊎ (k + 1 ≡ j) → IsBetween (HasBit (get_or free y [])) k
    → PullsTo (Passes (in_rows free)) (cell_at j y) (cell_at k y)
pulls_enter free y j k (inl e) (some, before, after) = grind arith
pulls_enter free y j k (inr e) (some, before, after) = grind arith

module _ (free : List (List ℕ)) (y : ℕ) (S : ℕ → Type 0) (inside : AreInside free) (j k : ℕ) where
  abbrev IsSlid : ℕ → Type 0
  IsSlid = IsFilled (λ i. S i ⊎ IsBetween (HasBit (get_or free y [])) i) S

  closed_by : (d : Dir) → cell_at j y ≡ neighbor (cell_at k y) d → InRows free (neighbor (cell_at k y) (opposite d)) → InRows free (cell_at j y) → IsSlid j
      → IsSlid k
  closed_by L e behind ahead filled = grind (arith, filled_beside)
  closed_by U e behind ahead filled = grind arith
  closed_by R e behind ahead filled =
      let column : j ≡ k + 1 = ap (λ (q : Cell). q.column) e in
      let some : 1 ≤ k - 1 = (inside (cell_at (k - 1) y) behind).1 in
      filled_beside S (IsBetween (HasBit (get_or free y []))) j k (inr (omega arith))
      (omega arith, behind, subst (λ (n : ℕ). InRows free (cell_at n y)) column ahead) filled
  closed_by D e behind ahead filled = grind arith

  pub pulls_closed : PullsTo (Passes (in_rows free)) (cell_at j y) (cell_at k y) → IsSlid j → IsSlid k
  pulls_closed p filled = search (closed_by, of_test)

-- pulls to the row above or below
module _ (free : List (List ℕ)) (from to k : ℕ) where
  there : (to + 1 ≡ from) ⊎ (to ≡ from + 1) → InRows free (cell_at k (to - 1)) × InRows free (cell_at k (to + 1))
      → PullsTo (Passes (in_rows free)) (cell_at k from) (cell_at k to)
  there (inl e) (above, below) = grind arith
  there (inr e) (above, below) = grind arith

  apart : (to + 1 ≡ from) ⊎ (to ≡ from + 1) → from ≡ to → ⊥
  apart (inl a) row = omega arith
  apart (inr b) row = omega arith

  back : (d : Dir) → (to + 1 ≡ from) ⊎ (to ≡ from + 1) → cell_at k from ≡ neighbor (cell_at k to) d → InRows free (neighbor (cell_at k to) (opposite d))
      → InRows free (cell_at k from) → InRows free (cell_at k (to - 1)) × InRows free (cell_at k (to + 1))
  back L side e behind ahead = grind (arith, apart)
  back U side e behind ahead = grind arith
  back R side e behind ahead = grind (arith, apart)
  back D side e behind ahead = grind arith

  pub pulls_across : (to + 1 ≡ from) ⊎ (to ≡ from + 1) → (InRows free (cell_at k (to - 1)) × InRows free (cell_at k (to + 1))) ↔ PullsTo
      (Passes (in_rows free)) (cell_at k from) (cell_at k to)
  pulls_across side = grind (arith, there, back, of_test)
