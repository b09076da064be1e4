-- Bits of a word and of a row of words, and the places that runs of free bits join to a seed.
--     Bit, HasBit      a bit of a word is set, or of a row of words
--     Run      all places from one to another are free
--     IsFilled      joined to a seed by a run to either side
use Rattle.std.specs.Prelude.{◌≡◌, ℕ, ◌-◌, ◌/◌, ◌%◌, ◌^◌, ◌≤◌, ◌<◌, ◌⊎◌, ◌↔◌, true, List, sum, slice_index}
use Rattle.std.specs.List.{sum_by}
use Rattle.cellset.specs.Bits.{bit}

-- bit k of the word is set
pub record Bit (word k : ℕ) : Type 0 where
  pub is : bit word k ≡ true

-- bit k of a row of words is set, 64 bits to a word
abbrev pub HasBit : List ℕ → ℕ → Type 0
HasBit words k = Bit (slice_index words (k / 64)) (k % 64)

-- all places from one to another are free, both ends included
pub record Run (Free : ℕ → Type 0) (from to : ℕ) : Type 0 where
  pub all : (k : ℕ) → from ≤ k → k ≤ to → Free k

-- a run of free places goes from a seed up to k
pub record FromBelow (Free Seed : ℕ → Type 0) (k : ℕ) : Type 0 where
  pub seed : ℕ
  pub below : seed ≤ k
  pub is_seed : Seed seed
  pub run : Run Free seed k

-- a run of free places goes from a seed down to k
pub record FromAbove (Free Seed : ℕ → Type 0) (k : ℕ) : Type 0 where
  pub seed : ℕ
  pub above : k ≤ seed
  pub is_seed : Seed seed
  pub run : Run Free k seed

-- a run of free places joins k to a seed
abbrev pub IsFilled : (ℕ → Type 0) → (ℕ → Type 0) → ℕ → Type 0
IsFilled Free Seed k = FromBelow Free Seed k ⊎ FromAbove Free Seed k

-- a number that falls when a bit is added to a row
abbrev pub room_left : List ℕ → ℕ
room_left row = sum_by (λ w. 2 ^ 64 - w) row

-- the rest has all bits of the words but this one
pub record IsTaken (words : List ℕ) (bit : ℕ) (rest : List ℕ) : Type 0 where
  pub was : HasBit words bit
  pub others : (k : ℕ) → HasBit rest k ↔ (HasBit words k × (k ≡ bit → ⊥))
  pub less : sum rest < sum words
