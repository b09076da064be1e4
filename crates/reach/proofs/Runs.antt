-- Runs of free places, a word filled downward by doubling, and a row filled to both sides.
-- By doubling: what is less than `step` below its seed, and the runs of `step` free bits. A run of `step` bits that
-- begins at a bit ends right before the bit `step` places on, so what is near that bit is near this one at twice the
-- step, and two such runs make one of twice the length. If every free bit right below a seed is a seed itself, no run leaves
-- the seeds.
use Rattle.std.proofs.Common.{◌≡◌, ℕ, ◌+◌, ◌-◌, ◌*◌, ◌/◌, ◌^◌, ◌<◌, ◌≤◌, zero, suc, inl, inr, arith, subst}
use Rattle.std.specs.Prelude.{◌⊎◌, ◌↔◌, bit_and, bit_or}
use Rattle.std.specs.Int.{bit_not, w64}
use Rattle.std.proofs.lemmas.Bool.{cases_lt}
use Rattle.std.proofs.lemmas.Nat.{and_le_r}
use Rattle.reach.specs.Bits.{Bit, Run, FromBelow, FromAbove, IsFilled}
use Rattle.reach.proofs.Words.{no_bit_zero, bit_cases, bit_and_l, bit_and_r, bit_and_from, bit_or_cases, bit_or_l, bit_or_r, bit_not_from, bit_shr}
use Rattle.reach.proofs.Words.{bit_shr_from, bit_below}

pub run_within : (f : ℕ → Type 0) (i j a b : ℕ) → i ≤ a → b ≤ j → Run f i j → Run f a b
run_within f i j a b low high r = grind arith

pub run_one : (f : ℕ → Type 0) (k : ℕ) → f k → Run f k k
run_one f k h = grind arith

pub run_then : (f : ℕ → Type 0) (i j k : ℕ) → Run f i j → Run f (j + 1) k → Run f i k
run_then f i j k r s = grind (arith, cases_lt)

-- ---- a word filled downward by doubling
-- a run of free bits goes down to bit k from a seed less than `step` above it
pub record NearAbove (free seeds step k : ℕ) : Type 0 where
  pub from : FromAbove (Bit free) (Bit seeds) k
  pub near : from.seed < k + step

-- a run of `step` free bits begins at bit k
abbrev pub BeginsRun : ℕ → ℕ → ℕ → Type 0
BeginsRun free step k = Run (Bit free) k (k + step - 1)

pub record IsDoublingDown (free seeds got run step : ℕ) : Type 0 where
  pub some : 1 ≤ step
  pub got_near : (k : ℕ) → Bit got k → NearAbove free seeds step k
  pub near_got : (k : ℕ) → NearAbove free seeds step k → Bit got k
  pub run_begins : (k : ℕ) → Bit run k → BeginsRun free step k
  pub begins_run : (k : ℕ) → BeginsRun free step k → Bit run k

pub down_start : (free seeds : ℕ) → IsDoublingDown free seeds (bit_and seeds free) free 1
down_start free seeds = record {
  some = omega arith;
  got_near = λ k h. record {
    from = grind (arith, bit_and_l, run_one, bit_and_r);
    near = omega arith;
  };
  near_got = λ k n. grind (arith, bit_and_from);
  run_begins = λ k h. grind arith;
  begins_run = λ k r. r.all k (omega arith) (omega arith);
}

pub down_twice : (free seeds got run step : ℕ) → IsDoublingDown free seeds got run step
    → IsDoublingDown free seeds (bit_or got (bit_and run (got / 2 ^ step))) (bit_and run (run / 2 ^ step)) (step * 2)
down_twice free seeds got run step d = record {
  some = let some = d.some in omega arith;
  got_near = λ k h. bit_or_cases got _ k h
      (λ old. let n = d.got_near k old in record { from = n.from; near = let near = n.near in omega arith })
      (λ new.
      let r = d.run_begins k (bit_and_l run _ k new) in
      let n = d.got_near (step + k) (bit_shr got step k (bit_and_r run _ k new)) in
      let some = d.some in let above = n.from.above in let near = n.near in
      let next : step + k ≡ k + step - 1 + 1 = omega arith in
      record {
        from = record {
          seed = n.from.seed;
          above = omega arith;
          is_seed = n.from.is_seed;
          run = run_then (Bit free) k (k + step - 1) n.from.seed r (subst (λ i. Run (Bit free) i n.from.seed) next n.from.run);
        };
        near = omega arith;
      });
  near_got = λ k n.
      let above = n.from.above in let near = n.near in let some = d.some in
      elim (cases_lt n.from.seed (k + step)) [
        | inl h ↦ bit_or_l got _ k (d.near_got k (record { from = n.from; near = h }))
        | inr h ↦
            bit_or_r got _ k (bit_and_from run _ k
            (d.begins_run k (run_within (Bit free) k n.from.seed k (k + step - 1) (omega arith) (omega arith) n.from.run))
            (bit_shr_from got step k (d.near_got (step + k) (record {
              from = record {
                seed = n.from.seed;
                above = omega arith;
                is_seed = n.from.is_seed;
                run = run_within (Bit free) k n.from.seed (step + k) n.from.seed (omega arith) (omega arith) n.from.run;
              };
              near = omega arith;
            }))))
      ];
  run_begins = λ k h.
      let r = d.run_begins k (bit_and_l run _ k h) in
      let s = d.run_begins (step + k) (bit_shr run step k (bit_and_r run _ k h)) in
      let some = d.some in
      let next : step + k ≡ k + step - 1 + 1 = omega arith in
      let last : step + k + step - 1 ≡ k + step * 2 - 1 = omega arith in
      subst (λ j. Run (Bit free) k j) last (run_then (Bit free) k (k + step - 1) (step + k + step - 1) r
      (subst (λ i. Run (Bit free) i (step + k + step - 1)) next s));
  begins_run = λ k r.
      let some = d.some in
      bit_and_from run _ k (d.begins_run k (run_within (Bit free) k (k + step * 2 - 1) k (k + step - 1) (omega arith) (omega arith) r))
      (bit_shr_from run step k (d.begins_run (step + k) (run_within (Bit free) k (k + step * 2 - 1) (step + k) (step + k + step - 1) (omega arith)
      (omega arith) r)));
}

pub down_end : (free seeds got run step : ℕ) → free < 2 ^ 64 → 64 ≤ step → IsDoublingDown free seeds got run step → (k : ℕ)
    → Bit got k ↔ FromAbove (Bit free) (Bit seeds) k
down_end free seeds got run step fits long d k = (
  (λ h. (d.got_near k h).from),
  (λ f. let in_word = bit_below free 64 f.seed fits (f.run.all f.seed f.above (omega arith)) in d.near_got k (record { from = f; near = omega arith })),
)

-- if every free bit right below a seed is a seed, no run leaves the seeds
module _ (free seeds : ℕ) (fits : free < 2 ^ 64) (closed : bit_and (bit_and free (bit_not w64 (bit_and seeds free))) (bit_and seeds free / 2 ^ 1) ≡ 0) where
  stays : (n k last : ℕ) → last ≡ n + k → Bit seeds last → Run (Bit free) k last → Bit (bit_and seeds free) k
  stays zero k last e seed r = grind (arith, bit_and_from)
  stays (suc n) k last e seed r =
      let here = r.all k (omega arith) (omega arith) in
      let above = stays n (1 + k) last (omega arith) seed (run_within (Bit free) k last (1 + k) last (omega arith) (omega arith) r) in
      bit_cases (bit_and seeds free) k (λ got. got)
      (λ none.
      let missing = bit_not_from (bit_and seeds free) k (let le = and_le_r seeds free in omega arith) (bit_below free 64 k fits here) none in
      let new = bit_and_from _ _ k (bit_and_from free _ k here missing) (bit_shr_from (bit_and seeds free) 1 k above) in
      absurd (no_bit_zero k (rw closed at new)))

  pub down_at_once : (k : ℕ) → Bit (bit_and seeds free) k ↔ FromAbove (Bit free) (Bit seeds) k
  down_at_once k = (
    (λ h. ((down_start free seeds).got_near k h).from),
    (λ f. stays (f.seed - k) k f.seed (omega arith) f.is_seed f.run),
  )

-- ---- up and then down: a run up to a bit and one down from it are one run, on one side of the seed
pub filled : (free seeds up down : ℕ → Type 0) → ((k : ℕ) → up k ↔ FromBelow free seeds k) → ((k : ℕ) → down k ↔ FromAbove free up k) → (k : ℕ)
    → down k ↔ IsFilled free seeds k
filled free seeds up down is_up is_down k = (there, back)
  where
    turned : (a : FromAbove free up k) → FromBelow free seeds a.seed → IsFilled free seeds k
    turned a b =
        let above = a.above in elim (cases_lt k b.seed) [
          | inl h ↦ grind arith
          | inr h ↦ grind arith
        ]

    there : down k → IsFilled free seeds k
    there h = let a = (is_down k).0 h in turned a ((is_up a.seed).0 a.is_seed)

    back : IsFilled free seeds k → down k
    back (inl b) = (is_down k).1 (record { seed = k; above = omega arith; is_seed = (is_up k).1 b; run = run_one free k (b.run.all k b.below (omega arith)) })
    back (inr a) = grind arith

-- ---- what is filled is closed under free neighbours
pub filled_seed : (free seeds : ℕ → Type 0) (k : ℕ) → seeds k → free k → IsFilled free seeds k
filled_seed free seeds k seed here = grind (arith, run_one)

pub filled_right : (free seeds : ℕ → Type 0) (k : ℕ) → IsFilled free seeds k → free (k + 1) → IsFilled free seeds (k + 1)
filled_right free seeds k (inl b) next = grind (arith, run_then, run_one)
filled_right free seeds k (inr a) next = grind (arith, cases_lt, run_within, run_then, run_one)

pub filled_left : (free seeds : ℕ → Type 0) (k : ℕ) → IsFilled free seeds k → free (k - 1) → IsFilled free seeds (k - 1)
filled_left free seeds k filled before = grind (arith, cases_lt, filled, run_then, run_one, run_within)

-- ---- what holds at the seeds, and at each free place beside a free one at which it holds, holds where it is filled
module _ (free seeds Holds : ℕ → Type 0) (start : (k : ℕ) → seeds k → Holds k)
    (next : (j k : ℕ) → (k ≡ j + 1) ⊎ (k + 1 ≡ j) → free j → free k → Holds j → Holds k) where
  upward : (j n : ℕ) → ((k : ℕ) → j ≤ k → k ≤ j + n → free k) → Holds j → Holds (j + n)
  upward j zero run from = grind arith
  upward j (suc n) run from =
      next (j + n) (j + suc n) (inl (omega arith)) (run (j + n) (omega arith) (omega arith)) (run (j + suc n) (omega arith) (omega arith))
      (upward j n (λ k low high. run k low (omega arith)) from)

  downward : (j n : ℕ) → ((k : ℕ) → j ≤ k → k ≤ j + n → free k) → Holds (j + n) → Holds j
  downward j zero run from = grind arith
  downward j (suc n) run from =
      downward j n (λ k low high. run k low (omega arith))
      (next (j + suc n) (j + n) (inr (omega arith)) (run (j + suc n) (omega arith) (omega arith)) (run (j + n) (omega arith) (omega arith)) from)

  pub filled_along : (k : ℕ) → IsFilled free seeds k → Holds k
  filled_along k (inl b) =
      let e : b.seed + (k - b.seed) ≡ k = omega arith in
      grind (arith, upward)
  filled_along k (inr a) =
      let above = a.above in
      let e : a.seed ≡ k + (a.seed - k) = omega arith in
      grind (arith, downward)
