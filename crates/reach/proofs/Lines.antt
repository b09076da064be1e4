-- Filling a row over clear columns, seen as steps along it: each step leads to the column before or after, if that is clear.
use Rattle.std.proofs.Common.{◌≡◌, ℕ, ◌+◌, ◌-◌, ◌*◌, ◌/◌, ◌%◌, ◌^◌, ◌<◌, List, length, get_or, refl, inl, inr, arith}
use Rattle.std.specs.Prelude.{◌⊎◌, ◌↔◌, bit_and, bit_or}
use Rattle.std.specs.Int.{bit_not, w64}
use Rattle.std.proofs.Math.ListN.{set, replicate}
use Rattle.std.proofs.lemmas.Bool.{cases_eq, cases_lt}
use Rattle.std.proofs.lemmas.List.{get_or-replicate, get_or_past, length-replicate}
use Rattle.cellset.specs.Cell.{cell_at}
use Rattle.cellset.specs.declared.cell.Cell.{Cell}
use Rattle.cellset.proofs.Truth.{either}
use Rattle.reach.specs.Bits.{Bit, HasBit, IsFilled}
use Rattle.reach.proofs.Words.{bit_and_l, bit_and_r, bit_and_from, bit_or_cases, bit_or_l, bit_or_r, bit_below, bit_cases, no_bit_zero}
use Rattle.reach.proofs.Words.{bit_not_from, bit_not_l}
use Rattle.reach.proofs.Many.{wrote_same, wrote_other, wrote_cases, moved}
use Rattle.reach.proofs.Carries.{to_word, of_word}
use Rattle.reach.proofs.Runs.{filled_left, filled_right, filled_along}
use Rattle.reach.specs.Reached.{Reached, at_seed, by_step}

-- ---- words
pub both_word : (a b : List ℕ) (i wa wb : ℕ) → wa ≡ get_or a i 0 → wb ≡ get_or b i 0 → wa < 2 ^ 64
    → (k : ℕ) → Bit (bit_and wa wb) k ↔ ((k < 64) × (HasBit a (64 * i + k) × HasBit b (64 * i + k)))
both_word a b i wa wb is_a is_b fits k = (
  (λ h. let below = bit_below wa 64 k fits (bit_and_l wa wb k h) in grind (arith, of_word, bit_and_l, bit_and_r)),
  (λ (below, both). grind (arith, bit_and_from, to_word)),
)

pub either_word : (a b : List ℕ) (i : ℕ) → get_or a i 0 < 2 ^ 64 → get_or b i 0 < 2 ^ 64
    → (k : ℕ) → Bit (bit_or (get_or a i 0) (get_or b i 0)) k ↔ ((k < 64) × (HasBit a (64 * i + k) ⊎ HasBit b (64 * i + k)))
either_word a b i fits_a fits_b k = (
  (λ h. bit_or_cases (get_or a i 0) (get_or b i 0) k h
      (λ x. let below = bit_below (get_or a i 0) 64 k fits_a x in (below, inl (of_word a i k (64 * i + k) below refl x)))
      (λ x. let below = bit_below (get_or b i 0) 64 k fits_b x in (below, inr (of_word b i k (64 * i + k) below refl x)))),
  (λ (below, h). grind (arith, either, bit_or_l, to_word, bit_or_r)),
)

-- what is filled along some places is filled along more
pub filled_more : (F G S : ℕ → Type 0) → ((k : ℕ) → F k → G k) → (k : ℕ) → IsFilled F S k → IsFilled G S k
filled_more F G S f k (inl b) = grind arith
filled_more F G S f k (inr a) = grind arith

-- ---- steps along a row
module _ (L : Cell → Cell → Type 0) (y : ℕ) (S Open : ℕ → Type 0)
    (enter : (j k : ℕ) → (k ≡ j + 1) ⊎ (k + 1 ≡ j) → Open k → L (cell_at j y) (cell_at k y)) where
  abbrev IsReached : ℕ → Type 0
  IsReached k = Reached L (λ c. (c.row ≡ y) × S c.column) (cell_at k y)

  pub filled_reached : (k : ℕ) → IsFilled (λ j. S j ⊎ Open j) S k → IsReached k
  filled_reached = filled_along (λ j. S j ⊎ Open j) S IsReached (λ k seed. at_seed (refl, seed))
      (λ j k side _ here from. either here (λ seed. at_seed (refl, seed)) (λ clear. by_step (cell_at j y) from (enter j k side clear)))

-- the clear columns beside a filled one are filled
pub filled_beside : (S Open : ℕ → Type 0) (j k : ℕ) → (k ≡ j + 1) ⊎ (k ≡ j - 1) → Open k → IsFilled (λ j. S j ⊎ Open j) S j → IsFilled (λ j. S j ⊎ Open j) S k
filled_beside S Open j k (inl e) clear filled = grind (arith, filled_right)
filled_beside S Open j k (inr e) clear filled = grind (arith, filled_left)

-- ---- rows without a bit, and one bit less
pub none_in_zeros : (n k : ℕ) → HasBit (replicate {A = ℕ} n 0) k → ⊥
none_in_zeros n k h = grind (arith, no_bit_zero, replicate, cases_lt, get_or-replicate, get_or_past, length-replicate)

-- a word without the bits of another one, in its place
pub cleared : (words : List ℕ) (part bits : ℕ) → part < length words → bits < 2 ^ 64
    → (k : ℕ) → HasBit (set words part (bit_and (get_or words part 0) (bit_not w64 bits))) k ↔ (HasBit words k × (k / 64 ≡ part → Bit bits (k % 64) → ⊥))
cleared words part bits within fits k = (
  (λ h. wrote_cases words part _ (k / 64) (k % 64) within h
      (λ e b. (grind (arith, moved, bit_and_l), λ _. bit_not_l bits (k % 64) fits (bit_and_r (get_or words part 0) _ (k % 64) b)))
      (λ ne old. (old, λ e. absurd (ne e)))),
  (λ (h, gone). grind (arith, cases_eq, wrote_same, bit_and_from, bit_cases, bit_not_from, moved, wrote_other)),
)

-- two tests that clear the same places fill the same places
pub filled_as : (S F G : ℕ → Type 0) → ((k : ℕ) → F k ↔ G k) → (k : ℕ) → IsFilled (λ j. S j ⊎ F j) S k ↔ IsFilled (λ j. S j ⊎ G j) S k
filled_as S F G same k = grind arith

-- the bits of a word without the bits of another one
pub word_without : (words others : List ℕ) (i : ℕ) → get_or words i 0 < 2 ^ 64 → get_or others i 0 < 2 ^ 64
    → (k : ℕ) → Bit (bit_and (get_or words i 0) (bit_not w64 (get_or others i 0))) k ↔
    ((k < 64) × (HasBit words (64 * i + k) × (HasBit others (64 * i + k) → ⊥)))
word_without words others i fits fits_other k = (
  (λ h. search (bit_and_l, bit_below, of_word, bit_not_l, bit_and_r, to_word)),
  (λ (below, (here, gone)). grind (arith, bit_and_from, to_word, bit_cases, of_word, bit_not_from)),
)
