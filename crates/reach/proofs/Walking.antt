-- Walks (`WalksTo`): steps to free neighbours.
use Rattle.std.proofs.Common.{◌≡◌, ℕ, ◌+◌, ◌-◌, ◌≤◌, List, [], get_or, inl, inr, arith}
use Rattle.std.specs.Prelude.{◌⊎◌}
use Rattle.cellset.specs.Cell.{neighbor, cell_at}
use Rattle.cellset.specs.declared.cell.Cell.{Cell}
use Rattle.cellset.specs.declared.dir.Dir.{Dir}
use Rattle.cellset.specs.declared.dir.Dir.TheVariants.{L, U, R, D}
use Rattle.cellset.proofs.Truth.{either}
use Rattle.reach.specs.Bits.{HasBit, IsFilled}
use Rattle.reach.specs.BitRows.{InRows}
use Rattle.reach.specs.Reached.{WalksTo}
use Rattle.reach.specs.Grown.{Passes, in_rows, IsBeside}
use Rattle.reach.proofs.Lines.{filled_beside}

-- a cell that passes the test of the rows is in the rows
pub of_test : (rows : List (List ℕ)) (c : Cell) → Passes (in_rows rows) c → InRows rows c
of_test rows c e = record { is = e }

pub beside_by : (b c : Cell) (d : Dir) → c ≡ neighbor b d → 1 ≤ c.row → IsBeside b c
beside_by b c L e low = grind arith
beside_by b c U e low = grind arith
beside_by b c R e low = grind arith
beside_by b c D e low = grind arith

-- a walk along a row enters each free column
pub walks_enter : (free : List (List ℕ)) (y j k : ℕ) → (k ≡ j + 1) ⊎ (k + 1 ≡ j) → HasBit (get_or free y []) k
    → WalksTo (Passes (in_rows free)) (cell_at j y) (cell_at k y)
walks_enter free y j k (inl e) clear = grind arith
walks_enter free y j k (inr e) clear = grind arith

-- a step leads to the same column or to one beside it
pub walks_columns : (y j k : ℕ) (d : Dir) → cell_at k y ≡ neighbor (cell_at j y) d → (k ≡ j) ⊎ ((k ≡ j + 1) ⊎ (k ≡ j - 1))
walks_columns y j k L e = grind arith
walks_columns y j k U e = grind arith
walks_columns y j k R e = grind arith
walks_columns y j k D e = grind arith

pub walks_closed : (free : List (List ℕ)) (y : ℕ) (S : ℕ → Type 0) (j k : ℕ) → WalksTo (Passes (in_rows free)) (cell_at j y) (cell_at k y)
    → IsFilled (λ i. S i ⊎ HasBit (get_or free y []) i) S j → IsFilled (λ i. S i ⊎ HasBit (get_or free y []) i) S k
walks_closed free y S j k w filled = either (walks_columns y j k w.dir w.next)
    (λ same. rw same filled)
    (λ side. filled_beside S (HasBit (get_or free y [])) j k side (of_test free (cell_at k y) w.free) filled)
