-- How a row gets the free bits of another row, word by word.
use Rattle.std.proofs.Common.{◌≡◌, ℕ, ◌+◌, ◌-◌, ◌*◌, ◌/◌, ◌%◌, ◌^◌, ◌<◌, ◌≤◌, List, [], ◌∷◌, length, get_or, suc}
use Rattle.std.proofs.Common.{◌∙◌, ap, arith}
use Rattle.std.specs.Prelude.{◌⊎◌, ◌↔◌, bit_and, bit_or}
use Rattle.std.specs.Int.{bit_not, w64}
use Rattle.std.proofs.Math.ListN.{set, length-set}
use Rattle.std.proofs.lemmas.Bool.{cases_lt, cases_eq}
use Rattle.std.proofs.lemmas.List.Sums.{sum_by-set, sum_by-cons}
use Rattle.std.specs.Int.Bits.{or_zero_r}
use Rattle.std.proofs.lemmas.List.{set-get_or}
use Rattle.std.proofs.lemmas.Nat.{le_or_l, le_or_r, and_le_r}
use Rattle.cellset.proofs.Truth.{either}
use Rattle.reach.specs.Bits.{Bit, HasBit, room_left}
use Rattle.reach.proofs.Words.{bit_cases, bit_below, bit_and_l, bit_and_r, bit_and_from, bit_or_cases, bit_or_l, bit_or_r, bit_not_l, bit_not_from, lowest_bit}
use Rattle.reach.proofs.Words.{less_by_bit, le_by_bits}
use Rattle.reach.proofs.Many.{wrote_same, wrote_other, wrote_cases, moved}
use Rattle.reach.proofs.Carries.{to_word, of_word, none_past}

module _ (free here start : List ℕ) where
  -- the words below i have got the free bits of the other row
  pub record IsJoining (row : List ℕ) (i grew : ℕ) : Type 0 where
    pub long : length row ≡ length start
    pub there : (k : ℕ) → HasBit row k → HasBit start k ⊎ (HasBit here k × HasBit free k)
    pub kept : (k : ℕ) → HasBit start k → HasBit row k
    pub got : (k : ℕ) → k < 64 * i → HasBit here k → HasBit free k → HasBit row k
    pub none : grew ≡ 0 → row ≡ start
    pub less : room_left row ≤ room_left start
    pub some : 0 < grew → room_left row < room_left start

  module _ (row : List ℕ) (i grew : ℕ) (fits : get_or row i 0 < 2 ^ 64) (j : IsJoining row i grew) where
    abbrev pub gain : ℕ
    gain = bit_and (bit_and (get_or here i 0) (get_or free i 0)) (bit_not w64 (get_or row i 0))

    -- an offered free bit is new, or the row had it before
    offered : (k : ℕ) → k / 64 ≡ i → HasBit here k → HasBit free k → HasBit row k ⊎ Bit gain (k % 64)
    offered k e h f = grind (arith, bit_cases, moved, bit_and_from, bit_not_from)

    pub joining_more : i < length row → IsJoining (set row i (bit_or (get_or row i 0) gain)) (i + 1) (bit_or grew gain)
    joining_more within = record {
      long = length-set row i _ ∙ j.long;
      there = λ k h. wrote_cases row i _ (k / 64) (k % 64) within h
          (λ e b. bit_or_cases (get_or row i 0) gain (k % 64) b
          (λ old. j.there k (moved row i (k / 64) (k % 64) e old))
          (λ n. grind (arith, bit_and_l, moved, bit_and_r)))
          (λ _ old. j.there k old);
      kept = λ k h. keep k (j.kept k h);
      got = λ k low h f. grind (arith, cases_lt, either, offered, wrote_same, bit_or_r, keep);
      none = λ e. let no_gain : gain ≡ 0 = omega (arith, le_or_r grew gain) in
          rw no_gain (ap (λ n. set row i n) (or_zero_r (get_or row i 0)) ∙ set-get_or row i 0 ∙ j.none (omega (arith, le_or_l grew gain)));
      less = omega (arith, rooms, le_or_l (get_or row i 0) gain);
      some = λ more. grind (arith, cases_lt, le_or_l, rooms, larger);
    }
      where
        keep : (k : ℕ) → HasBit row k → HasBit (set row i (bit_or (get_or row i 0) gain)) k
        keep k h = grind (arith, cases_eq, wrote_same, bit_or_l, moved, wrote_other)

        rooms : room_left (set row i (bit_or (get_or row i 0) gain)) + (2 ^ 64 - get_or row i 0) ≡ room_left row + (2 ^ 64 - bit_or (get_or row i 0) gain)
        rooms = omega (arith, sum_by-set (λ w. 2 ^ 64 - w) row i (bit_or (get_or row i 0) gain) 0 within)

        larger : 0 < gain → get_or row i 0 < bit_or (get_or row i 0) gain
        larger new =
            let low = lowest_bit gain new (grind (arith, and_le_r)) in
            less_by_bit (bit_or (get_or row i 0) gain) (get_or row i 0) _ (le_or_l (get_or row i 0) gain) (bit_or_r (get_or row i 0) gain _ low.1)
            (bit_not_l (get_or row i 0) _ fits (bit_and_r _ _ _ low.1))

  pub joined : (row : List ℕ) (n grew : ℕ) → length free ≡ n → IsJoining row n grew → (k : ℕ)
      → HasBit row k ↔ (HasBit start k ⊎ (HasBit here k × HasBit free k))
  joined row n grew long j k = grind (arith, either, cases_lt, none_past)

-- ---- a row that keeps its bits has no more room
rooms_le : (xs ys : List ℕ) → length xs ≡ length ys → ((i : ℕ) → get_or ys i 0 ≤ get_or xs i 0) → room_left xs ≤ room_left ys
rooms_le [] [] e le = omega arith
rooms_le [] (y ∷ ys) e le = absurd (omega arith)
rooms_le (x ∷ xs) [] e le = absurd (omega arith)
rooms_le (x ∷ xs) (y ∷ ys) e le =
    let rest = rooms_le xs ys (omega arith) (λ i. le (suc i)) in
    let first = le 0 in
    let a = sum_by-cons (λ (w : ℕ). 2 ^ 64 - w) x xs in
    let b = sum_by-cons (λ (w : ℕ). 2 ^ 64 - w) y ys in
    omega arith

pub room_shrinks : (xs ys : List ℕ) → length xs ≡ length ys → ((i : ℕ) → get_or ys i 0 < 2 ^ 64) → ((k : ℕ) → HasBit ys k → HasBit xs k)
    → room_left xs ≤ room_left ys
room_shrinks xs ys e fits more = rooms_le xs ys e (λ i. le_by_bits (get_or ys i 0) (get_or xs i 0) (λ b h.
    let below = bit_below (get_or ys i 0) 64 b (fits i) h in
    grind (arith, to_word, of_word)))
