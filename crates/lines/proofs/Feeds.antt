-- Line feeds among bytes, by a word that has a bit for each byte.
-- If the word is 0, no byte is a line feed. Otherwise its lowest bit is the first one, because the bits below it are clear. The word
-- shifted past that bit has a bit for each byte after it.
use Rattle.std.proofs.Common.{◌≡◌, ◌≢◌, ℕ, ◌+◌, ◌-◌, ◌/◌, ◌%◌, ◌^◌, ◌<◌, ◌≤◌, ◌==◌, false, List, get_or, ◌∙◌, ap, ⊎_elim, arith}
use Rattle.std.specs.Prelude.{nat_eq}
use Rattle.std.specs.Int.{bit_at, w64, trailing_zeros}
use Rattle.std.proofs.lemmas.Bool.{cases_lt, eq-eqb, eqb-true, false≢true}
use Rattle.std.proofs.lemmas.Nat.{shr-shr}
use Rattle.std.proofs.lemmas.Nat.Bits.{bit_at-trailing_zeros, bit_at-zero}
use Rattle.lines.specs.Starts.{AreFeeds}

-- If no byte before a place is a line feed, and none of those from there on, then no byte before all of them is one.
pub none_upto : (text : List ℕ) (at m : ℕ) → ((k : ℕ) → k < at → get_or text k 0 ≢ 10) → ((k : ℕ) → k < m → get_or text (at + k) 0 ≢ 10)
    → (k : ℕ) → k < at + m → get_or text k 0 ≢ 10
none_upto text at m before there k low = ⊎_elim (before k)
    (λ from is. let place : at + (k - at) ≡ k = omega arith in there (k - at) (omega arith) (ap (λ i. get_or text i 0) place ∙ is)) (cases_lt k at)

module _ (text : List ℕ) (at n word : ℕ) (feeds : AreFeeds text at n word) where
  unset : (k : ℕ) → k < n → nat_eq (bit_at word k) 1 ≡ false → get_or text (at + k) 0 ≢ 10
  unset k low clear is = grind (arith, false≢true, eq-eqb)

  pub no_feed : word ≡ 0 → (k : ℕ) → k < n → get_or text (at + k) 0 ≢ 10
  no_feed none k low = grind (arith, unset, bit_at-zero)

  pub first_feed : word < 2 ^ 64 → word ≢ 0 → (trailing_zeros w64 word < n) × (get_or text (at + trailing_zeros w64 word) 0 ≡ 10) ×
      ((k : ℕ) → k < trailing_zeros w64 word → get_or text (at + k) 0 ≢ 10)
  first_feed fits some =
      let t = trailing_zeros w64 word in
      let lowest = bit_at-trailing_zeros w64 word (omega arith) fits in
      grind (arith, false≢true, cases_lt, eqb-true, unset)

  -- The word shifted past some of the bytes is about the others.
  pub later_feeds : (by : ℕ) → by ≤ n → AreFeeds text (at + by) (n - by) (word / 2 ^ by)
  later_feeds by within = record {
    inside = λ k low.
        let place : at + (by + k) ≡ at + by + k = omega arith in
        shifted k ∙ feeds.inside (by + k) (omega arith) ∙ ap (λ i. get_or text i 0 == 10) place;
    past = λ k high. shifted k ∙ feeds.past (by + k) (omega arith);
  }
    where
      shifted : (k : ℕ) → nat_eq (bit_at (word / 2 ^ by) k) 1 ≡ nat_eq (bit_at word (by + k)) 1
      shifted k = ap (λ x. nat_eq (x % 2) 1) (shr-shr word by k)
