-- Chains of the items of one key, from the last to the first. The link to an item is its number plus 1; link 0 leads to none.
use Rattle.std.specs.Prelude.{◌≡◌, ℕ, ◌-◌, ◌<◌, ◌≤◌, List, length, slice_index}

-- the link to the last item of the key before the bound, or 0 if there is none
pub record IsLast (keys : List ℕ) (key bound link : ℕ) : Type 0 where
  pub within : link ≤ bound
  pub has_key : 0 < link → slice_index keys (link - 1) ≡ key
  pub others : (j : ℕ) → link ≤ j → j < bound → slice_index keys j ≡ key → ⊥

-- `first` has the last item of each key, and `next` for each item the last one before it with the same key
pub record AreChains (keys : List ℕ) (count : ℕ) (first next : List ℕ) : Type 0 where
  pub firsts : length first ≡ count
  pub nexts : length next ≡ length keys
  pub lasts : (key : ℕ) → key < count → IsLast keys key (length keys) (slice_index first key)
  pub before : (j : ℕ) → j < length keys → IsLast keys (slice_index keys j) j (slice_index next j)
