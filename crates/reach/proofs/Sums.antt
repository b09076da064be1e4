-- How a word is filled upward by one addition: if a seed is added to a run, a carry goes through the rest of the run.
-- The proof is by halving. The parity of a sum is its first bit, and its other bits are the bits of the sum of the halves with the
-- carry of the first bits.
use mir.Val.{bool_byte}
use Rattle.std.proofs.Common.{◌≡◌, ℕ, Bool, true, false, ◌||◌, ◌+◌, ◌/◌, ◌%◌, ◌^◌, ◌<◌, ◌≤◌, zero, suc, sym, ◌∙◌, inl, inr, arith}
use Rattle.std.specs.Prelude.{◌⊎◌, ◌↔◌, bit_and, bit_or}
use Rattle.std.specs.Bool.{FalseIff}
use Rattle.std.specs.Int.{bit_at, bit_not, w64}
use Rattle.std.proofs.lemmas.Bool.{cases_lt}
use Rattle.std.proofs.Math.Nat.{mod-lt}
use Rattle.std.proofs.lemmas.Nat.{pow_pos, and_le_l, and_le_r, or_lt}
use Rattle.std.proofs.lemmas.Nat.Bits.{bit_at_lowest, bit_at-suc, bit_at_and, bit_at_or, bit_at_not}
use Rattle.cellset.proofs.Truth.{either}
use Rattle.reach.specs.Bits.{Bit, Run, FromBelow}
use Rattle.reach.proofs.Words.{bit_of, is_one, bit_below, bit_cases, bit_and_l, bit_and_r, bit_and_from, bit_or_cases, bit_or_l, bit_or_r, bit_not_l}
use Rattle.reach.proofs.Words.{bit_not_from, bit_at_low}
use Rattle.reach.proofs.Runs.{run_one}

-- a run goes from a seed, or with a carry from the first bit, up to k
abbrev IsCarried : ℕ → ℕ → ℕ → ℕ → Type 0
IsCarried f s c k = FromBelow (Bit f) (Bit s) k ⊎ ((c ≡ 1) × Run (Bit f) 0 k)

first_bit : (f : ℕ) → Bit f 0 → f % 2 ≡ 1
first_bit f b = sym (bit_at_lowest f) ∙ is_one b

bit_first : (f : ℕ) → f % 2 ≡ 1 → Bit f 0
bit_first f e = search (bit_of, bit_at_lowest)

half_bit : (f k : ℕ) → Bit f (suc k) → Bit (f / 2) k
half_bit f k b = grind (arith, bit_of, bit_at-suc, is_one)

bit_half : (f k : ℕ) → Bit (f / 2) k → Bit f (suc k)
bit_half f k b = search (bit_of, bit_at-suc, is_one)

half_run : (f j k : ℕ) → Run (Bit f) (suc j) (suc k) → Run (Bit (f / 2)) j k
half_run f j k r = grind (arith, half_bit)

run_half : (f j k : ℕ) → Run (Bit (f / 2)) j k → Run (Bit f) (suc j) (suc k)
run_half f j k r = record { all = λ m low high. later m low high }
  where
    later : (m : ℕ) → suc j ≤ m → m ≤ suc k → Bit f m
    later zero low high = absurd (omega arith)
    later (suc n) low high = bit_half f n (r.all n (omega arith) (omega arith))

run_first : (f k : ℕ) → Bit f 0 → Run (Bit (f / 2)) 0 k → Run (Bit f) 0 (suc k)
run_first f k b r = record { all = λ m low high. later m high }
  where
    later : (m : ℕ) → m ≤ suc k → Bit f m
    later zero high = b
    later (suc n) high = bit_half f n (r.all n (omega arith) (omega arith))

run_rest : (f k : ℕ) → Run (Bit f) 0 (suc k) → Run (Bit (f / 2)) 0 k
run_rest f k r = grind (arith, half_bit)

abbrev next : ℕ → ℕ → ℕ → ℕ
next f s c = (f % 2 + s % 2 + c) / 2

to_halves : (f s c k : ℕ) → c ≤ 1 → IsCarried f s c (suc k) → IsCarried (f / 2) (s / 2) (next f s c) k
to_halves f s c k small (inr (e, r)) = let one = first_bit f (r.all 0 (omega arith) (omega arith)) in inr (omega arith, run_rest f k r)
to_halves f s c k small (inl b) = from b.seed b.below b.is_seed b.run
  where
    from : (j : ℕ) → j ≤ suc k → Bit s j → Run (Bit f) j (suc k) → IsCarried (f / 2) (s / 2) (next f s c) k
    from zero low seed r = let one = first_bit f (r.all 0 (omega arith) (omega arith)) in let two = first_bit s seed in inr (omega arith, run_rest f k r)
    from (suc j) low seed r = inl (record { seed = j; below = omega arith; is_seed = half_bit s j seed; run = half_run f j k r })

of_halves : (f s c k : ℕ) → c ≤ 1 → (Bit s 0 → Bit f 0) → IsCarried (f / 2) (s / 2) (next f s c) k → IsCarried f s c (suc k)
of_halves f s c k small within (inl b) = let below = b.below in inl
    (record { seed = suc b.seed; below = omega arith; is_seed = bit_half s b.seed b.is_seed; run = run_half f b.seed k b.run })
of_halves f s c k small within (inr (e, r)) = grind (arith, bit_cases, run_first, bit_at_lowest, bit_first)

sum_halves : (f s c k : ℕ) → bit_at (f + s + c) (suc k) ≡ bit_at (f / 2 + s / 2 + next f s c) k
sum_halves f s c k = grind (arith, bit_at-suc)

-- a bit of a run that the carry goes through is cleared, unless it is a seed
cleared : (f s c k : ℕ) → c ≤ 1 → IsCarried f s c k → Bit s k ⊎ (bit_at (f + s + c) k ≡ 0)
cleared f s c zero small (inl b) = grind arith
cleared f s c zero small (inr (e, r)) = bit_cases s 0 (λ seed. inl seed)
    (λ none. let zero_first : s % 2 ≡ 0 = sym (bit_at_lowest s) ∙ none in let one = first_bit f (r.all 0 (omega arith) (omega arith)) in
    let even : (f + s + c) % 2 ≡ 0 = omega arith in inr (bit_at_lowest (f + s + c) ∙ even))
cleared f s c (suc k) small carried =
    either (cleared (f / 2) (s / 2) (next f s c) k (let a = mod-lt f (pow_pos 1) in omega arith) (to_halves f s c k small carried))
    (λ seed. inl (bit_half s k seed)) (λ none. inr (sum_halves f s c k ∙ none))

-- an addition clears no other free bit
carried : (f s c k : ℕ) → c ≤ 1 → ((m : ℕ) → Bit s m → Bit f m) → Bit f k → Bit s k ⊎ (bit_at (f + s + c) k ≡ 0) → IsCarried f s c k
carried f s c k small within free (inl seed) = grind (arith, run_one)
carried f s c zero small within free (inr none) = grind (arith, bit_cases, run_one, bit_at_lowest, first_bit)
carried f s c (suc k) small within free (inr none) =
    of_halves f s c k small (within 0)
    (carried (f / 2) (s / 2) (next f s c) k (omega arith) (λ m h. half_bit f m (within (suc m) (bit_half s m h))) (half_bit f k free)
    (inr (sym (sum_halves f s c k) ∙ none)))

-- the word of the seeds and of the free bits that the carry cleared
abbrev pub up_word : ℕ → ℕ → ℕ → ℕ
up_word f s c = bit_or s (bit_and f (bit_not w64 ((f + s + c) % 2 ^ 64)))

module _ (f s c : ℕ) (fits : f < 2 ^ 64) (small : c ≤ 1) (within : (m : ℕ) → Bit s m → Bit f m) where
  sum_fits : (f + s + c) % 2 ^ 64 < 2 ^ 64
  sum_fits = search (mod-lt, pow_pos)

  filled_up : (k : ℕ) → Bit (up_word f s c) k ↔ IsCarried f s c k
  filled_up k = (there, back)
    where
      there : Bit (up_word f s c) k → IsCarried f s c k
      there h = bit_or_cases s _ k h
          (λ seed. carried f s c k small within (within k seed) (inl seed))
          (λ new. let free = bit_and_l f _ k new in
          bit_cases (f + s + c) k
          (λ set. absurd (bit_not_l ((f + s + c) % 2 ^ 64) k sum_fits (bit_and_r f _ k new)
          (bit_of _ k (bit_at_low (f + s + c) 64 k (bit_below f 64 k fits free) ∙ is_one set))))
          (λ none. carried f s c k small within free (inr none)))

      free_of : IsCarried f s c k → Bit f k
      free_of (inl b) = b.run.all k b.below (omega arith)
      free_of (inr (e, r)) = r.all k (omega arith) (omega arith)

      back : IsCarried f s c k → Bit (up_word f s c) k
      back h =
          let free = free_of h in
          let below = bit_below f 64 k fits free in
          either (cleared f s c k small h)
          (λ seed. bit_or_l s _ k seed)
          (λ none. bit_or_r s _ k (bit_and_from f _ k free (bit_not_from ((f + s + c) % 2 ^ 64) k sum_fits below (bit_at_low (f + s + c) 64 k below ∙ none))))

  -- the last bit of the filled word is the sum's carry
  last_bit : s < 2 ^ 64 → up_word f s c / 2 ^ 63 ≡ (f + s + c) / 2 ^ 64
  last_bit s_fits =
      let sum = (f + s + c) % 2 ^ 64 in
      let long = or_lt 64 s (bit_and f (bit_not w64 sum)) s_fits (let le = and_le_l f (bit_not w64 sum) in omega arith) in
      let word = bit_at_or s (bit_and f (bit_not w64 sum)) 63 in
      let both = bit_at_and f (bit_not w64 sum) 63 in
      let turned = bit_at_not w64 sum 63 sum_fits (omega arith) in
      bit_cases s 63
      (λ seed. let a = is_one seed in let b = is_one (within 63 seed) in omega arith)
      (λ none. bit_cases f 63
      (λ free. let b = is_one free in omega arith)
      (λ no_free. omega arith))

-- a word filled upward from seeds that needn't be free, since no run begins at one that isn't, and with a carry as one more seed
module _ (f s c : ℕ) (fits : f < 2 ^ 64) (small : c ≤ 1) where
  pub filled_by_sum : (k : ℕ) → Bit (up_word f (bit_and s f) c) k ↔ FromBelow (Bit f) (Bit (bit_or s c)) k
  filled_by_sum k = ((λ h. there (up.0 h)), (λ b. up.1 (back b)))
    where
      up : Bit (up_word f (bit_and s f) c) k ↔ IsCarried f (bit_and s f) c k
      up = filled_up f (bit_and s f) c fits small (λ m b. bit_and_r s f m b) k

      there : IsCarried f (bit_and s f) c k → FromBelow (Bit f) (Bit (bit_or s c)) k
      there (inl b) = record { seed = b.seed; below = b.below; is_seed = bit_or_l s c b.seed (bit_and_l s f b.seed b.is_seed); run = b.run }
      there (inr (e, r)) = record { seed = 0; below = omega arith; is_seed = bit_or_r s c 0 (bit_first c (omega arith)); run = r }

      back : FromBelow (Bit f) (Bit (bit_or s c)) k → IsCarried f (bit_and s f) c k
      back b = bit_or_cases s c b.seed b.is_seed
          (λ seed. inl (record {
            seed = b.seed;
            below = b.below;
            is_seed = bit_and_from s f b.seed seed (b.run.all b.seed (omega arith) b.below);
            run = b.run;
          }))
          (λ carry.
          let first : b.seed ≡ 0 = let low = bit_below c 1 b.seed (omega arith) carry in omega arith in
          let one = first_bit c (rw first at carry) in
          inr (omega arith, rw first at b.run))

  pub carry_by_sum : up_word f (bit_and s f) c / 2 ^ 63 ≡ (f + bit_and s f + c) / 2 ^ 64
  carry_by_sum = grind (arith, last_bit, bit_and_r, and_le_r)

-- a sum of two words and a carry overflows exactly if one of the two additions does
pub over_by_either : (over over_too : Bool) (a b c : ℕ) → a < 2 ^ 64 → b < 2 ^ 64 → c ≤ 1 → FalseIff over (a + b < 2 ^ 64)
    → FalseIff over_too ((a + b) % 2 ^ 64 + c < 2 ^ 64) → bool_byte (over || over_too) ≡ (a + b + c) / 2 ^ 64
over_by_either true over_too a b c fits fits' small past _ = grind (arith, cases_lt)
over_by_either false true a b c fits fits' small within past = grind (arith, cases_lt)
over_by_either false false a b c fits fits' small within within' = omega arith
