-- How a row of words is filled word by word. Upward, a run goes on in the next word if it reached the last bit of this one;
-- downward, it goes on in the word before if it reached the first bit.
use Rattle.std.proofs.Common.{◌≡◌, ℕ, ◌+◌, ◌-◌, ◌*◌, ◌/◌, ◌%◌, ◌^◌, ◌<◌, ◌≤◌, List, length, get_or, refl, ◌∙◌, inl, inr, arith, subst}
use Rattle.std.specs.Prelude.{◌↔◌, bit_or}
use Rattle.std.proofs.Math.ListN.{set, length-set}
use Rattle.std.proofs.lemmas.Bool.{cases_lt}
use Rattle.std.proofs.lemmas.List.{get_or_past, get_or-set_other}
use Rattle.reach.specs.Bits.{Bit, HasBit, Run, FromBelow, FromAbove}
use Rattle.reach.proofs.Words.{no_bit_zero, bit_below, bit_or_cases, bit_or_l, bit_or_r, bit_shl, bit_shl_from, bit_shr, bit_shr_from}
use Rattle.reach.proofs.Runs.{run_within, run_then}
use Rattle.reach.proofs.Many.{wrote_same, wrote_other, wrote_cases, moved}
use borrow.Author.Count.{below_more}

-- ---- a place among the words, and its bit in a word
pub to_word : (words : List ℕ) (i b k : ℕ) → b < 64 → k ≡ 64 * i + b → HasBit words k → Bit (get_or words i 0) b
to_word words i b k below e h = grind (arith, moved)

pub of_word : (words : List ℕ) (i b k : ℕ) → b < 64 → k ≡ 64 * i + b → Bit (get_or words i 0) b → HasBit words k
of_word words i b k below e h = grind (arith, moved)

-- no bit lies past the last word
pub none_past : (words : List ℕ) (n k : ℕ) → length words ≡ n → 64 * n ≤ k → HasBit words k → ⊥
none_past words n k long past h = grind (arith, no_bit_zero, get_or_past)

pub run_to_word : (words : List ℕ) (i a b from to : ℕ) → b < 64 → from ≡ 64 * i + a → to ≡ 64 * i + b → Run (HasBit words) from to
    → Run (Bit (get_or words i 0)) a b
run_to_word words i a b from to below ea eb r = grind (arith, to_word)

pub run_of_word : (words : List ℕ) (i a b from to : ℕ) → b < 64 → from ≡ 64 * i + a → to ≡ 64 * i + b → Run (Bit (get_or words i 0)) a b
    → Run (HasBit words) from to
run_of_word words i a b from to below ea eb r = grind (arith, of_word)

module _ (free seeds : List ℕ) where
  abbrev Below : ℕ → Type 0
  Below = FromBelow (HasBit free) (HasBit seeds)

  abbrev Above : ℕ → Type 0
  Above = FromAbove (HasBit free) (HasBit seeds)

  -- ---- upward
  -- the words below i are filled, the others are unchanged, and the carry is the last bit of the words below i
  pub record IsUpTo (row : List ℕ) (i carry : ℕ) : Type 0 where
    pub long : length row ≡ length seeds
    pub fit : (j : ℕ) → j < i → get_or seeds j 0 < 2 ^ 64
    pub small : carry ≤ 1
    pub done : (k : ℕ) → k < 64 * i → HasBit row k ↔ Below k
    pub rest : (j : ℕ) → i ≤ j → get_or row j 0 ≡ get_or seeds j 0
    pub came : (b : ℕ) → Bit carry b → (b ≡ 0) × (1 ≤ i) × Below (64 * i - 1)
    pub comes : 1 ≤ i → Below (64 * i - 1) → Bit carry 0

  pub upward_more : (row : List ℕ) (i carry got : ℕ) → i < length row → got < 2 ^ 64 → get_or row i 0 < 2 ^ 64
      → ((b : ℕ) → Bit got b ↔ FromBelow (Bit (get_or free i 0)) (Bit (bit_or (get_or row i 0) carry)) b)
      → IsUpTo row i carry → IsUpTo (set row i got) (i + 1) (got / 2 ^ 63)
  upward_more row i carry got within fits word_fits filled u = record {
    long = length-set row i got ∙ u.long;
    fit = below_more (λ j. get_or seeds j 0 < 2 ^ 64) i u.fit (subst (λ (w : ℕ). w < 2 ^ 64) (u.rest i (omega arith)) word_fits);
    small = omega arith;
    done = λ k h. elim (cases_lt k (64 * i)) [
      | inl old ↦ (
        (λ b. wrote_cases row i got (k / 64) (k % 64) within b (λ e _. absurd (omega arith)) (λ _ kept. (u.done k old).0 kept)),
        (λ b. wrote_other row i got (k / 64) (k % 64) (omega arith) ((u.done k old).1 b)),
      )
      | inr new ↦
          let word : k / 64 ≡ i = omega arith in
          let place : k ≡ 64 * i + k % 64 = omega arith in (
            (λ b. wrote_cases row i got (k / 64) (k % 64) within b (λ _ g. there (k % 64) k (omega arith) place g) (λ ne _. absurd (ne word))),
            (λ b. wrote_same row i got (k / 64) (k % 64) within word (back (k % 64) k (omega arith) place b)),
          )
    ];
    rest = λ j h. get_or-set_other row i j got 0 (omega arith) ∙ u.rest j (omega arith);
    came = λ b h.
        let last = bit_shr got 63 b h in
        let in_word = bit_below got 64 (63 + b) fits last in
        (omega arith, omega arith, there (63 + b) (64 * (i + 1) - 1) in_word (omega arith) last);
    comes = λ _ h. bit_shr_from got 63 0 (back (63 + 0) (64 * (i + 1) - 1) (omega arith) (omega arith) h);
  }
    where
      there : (b k : ℕ) → b < 64 → k ≡ 64 * i + b → Bit got b → Below k
      there b k below e h =
          let f = (filled b).0 h in
          let low = f.below in
          bit_or_cases (get_or row i 0) carry f.seed f.is_seed
          (λ old. record {
            seed = 64 * i + f.seed;
            below = omega arith;
            is_seed = of_word seeds i f.seed (64 * i + f.seed) (omega arith) refl (subst (λ (w : ℕ). Bit w f.seed) (u.rest i (omega arith)) old);
            run = run_of_word free i f.seed b (64 * i + f.seed) k below refl e f.run;
          })
          (λ c.
          let (first, some, before) = u.came f.seed c in
          let low' = before.below in
          record {
            seed = before.seed;
            below = omega arith;
            is_seed = before.is_seed;
            run = run_then (HasBit free) before.seed (64 * i - 1) k before.run (run_of_word free i f.seed b (64 * i - 1 + 1) k below (omega arith) e f.run);
          })

      back : (b k : ℕ) → b < 64 → k ≡ 64 * i + b → Below k → Bit got b
      back b k below e h =
          (filled b).1 (elim (cases_lt h.seed (64 * i)) [
            | inr here ↦
                let place : h.seed ≡ 64 * i + (h.seed - 64 * i) = omega arith in
                record {
                  seed = h.seed - 64 * i;
                  below = omega arith;
                  is_seed = grind (arith, bit_or_l, to_word);
                  run = run_to_word free i (h.seed - 64 * i) b h.seed k below place e h.run;
                }
            | inl before ↦ record {
              seed = 0;
              below = omega arith;
              is_seed = bit_or_r (get_or row i 0) carry 0 (grind arith);
              run = grind (arith, run_to_word, run_within);
            }
          ])

  pub upward_end : (row : List ℕ) (n carry : ℕ) → length row ≡ n → length free ≡ n → IsUpTo row n carry → (k : ℕ) → HasBit row k ↔ Below k
  upward_end row n carry long long_free u k = elim (cases_lt k (64 * n)) [
    | inl h ↦ u.done k h
    | inr h ↦ ((λ b. absurd (none_past row n k long h b)), (λ f. absurd (none_past free n k long_free h (f.run.all k f.below (omega arith)))))
  ]

  -- ---- downward
  -- the words from i on are filled, the others are unchanged, and the carry has the first bit of the words from i on
  pub record IsDownTo (row : List ℕ) (i carry : ℕ) : Type 0 where
    pub long : length row ≡ length seeds
    pub done : (k : ℕ) → 64 * i ≤ k → HasBit row k ↔ Above k
    pub rest : (j : ℕ) → j < i → get_or row j 0 ≡ get_or seeds j 0
    pub came : (b : ℕ) → Bit carry b → (b ≡ 63) × Above (64 * i)
    pub comes : Above (64 * i) → Bit carry 63

  pub downward_more : (row : List ℕ) (i carry got : ℕ) → i < length row → get_or free i 0 < 2 ^ 64
      → ((b : ℕ) → Bit got b ↔ FromAbove (Bit (get_or free i 0)) (Bit (bit_or (get_or row i 0) carry)) b)
      → IsDownTo row (i + 1) carry → IsDownTo (set row i got) i (got * 2 ^ 63 % 2 ^ 64)
  downward_more row i carry got within fits filled d = record {
    long = length-set row i got ∙ d.long;
    done = λ k h. elim (cases_lt k (64 * (i + 1))) [
      | inr old ↦ (
        (λ b. wrote_cases row i got (k / 64) (k % 64) within b (λ e _. absurd (omega arith)) (λ _ kept. (d.done k old).0 kept)),
        (λ b. wrote_other row i got (k / 64) (k % 64) (omega arith) ((d.done k old).1 b)),
      )
      | inl new ↦
          let word : k / 64 ≡ i = omega arith in
          let place : k ≡ 64 * i + k % 64 = omega arith in (
            (λ b. wrote_cases row i got (k / 64) (k % 64) within b (λ _ g. there (k % 64) k (omega arith) place g) (λ ne _. absurd (ne word))),
            (λ b. wrote_same row i got (k / 64) (k % 64) within word (back (k % 64) k (omega arith) place b)),
          )
    ];
    rest = λ j h. get_or-set_other row i j got 0 (omega arith) ∙ d.rest j (omega arith);
    came = λ b h.
        let (below, high, first) = bit_shl got 63 64 b h in
        (omega arith, there (b - 63) (64 * i) (omega arith) (omega arith) first);
    comes = λ h. bit_shl_from got 63 64 63 (omega arith) (omega arith) (back (63 - 63) (64 * i) (omega arith) (omega arith) h);
  }
    where
      there : (b k : ℕ) → b < 64 → k ≡ 64 * i + b → Bit got b → Above k
      there b k below e h =
          let f = (filled b).0 h in
          let high = f.above in
          let in_word = bit_below (get_or free i 0) 64 f.seed fits (f.run.all f.seed high (omega arith)) in
          bit_or_cases (get_or row i 0) carry f.seed f.is_seed
          (λ old. record {
            seed = 64 * i + f.seed;
            above = omega arith;
            is_seed = of_word seeds i f.seed (64 * i + f.seed) in_word refl (subst (λ (w : ℕ). Bit w f.seed) (d.rest i (omega arith)) old);
            run = run_of_word free i b f.seed k (64 * i + f.seed) in_word e refl f.run;
          })
          (λ c.
          let (last, after) = d.came f.seed c in
          let high' = after.above in
          let next : 64 * (i + 1) ≡ 64 * i + f.seed + 1 = omega arith in
          record {
            seed = after.seed;
            above = omega arith;
            is_seed = after.is_seed;
            run = run_then (HasBit free) k (64 * i + f.seed) after.seed (run_of_word free i b f.seed k (64 * i + f.seed) in_word e refl f.run)
                (subst (λ (n : ℕ). Run (HasBit free) n after.seed) next after.run);
          })

      back : (b k : ℕ) → b < 64 → k ≡ 64 * i + b → Above k → Bit got b
      back b k below e h =
          (filled b).1 (elim (cases_lt h.seed (64 * (i + 1))) [
            | inl here ↦
                let place : h.seed ≡ 64 * i + (h.seed - 64 * i) = omega arith in
                record {
                  seed = h.seed - 64 * i;
                  above = omega arith;
                  is_seed = grind (arith, bit_or_l, to_word);
                  run = run_to_word free i b (h.seed - 64 * i) k h.seed (omega arith) e place h.run;
                }
            | inr after ↦ record {
              seed = 63;
              above = omega arith;
              is_seed = bit_or_r (get_or row i 0) carry 63 (grind arith);
              run = grind (arith, run_to_word, run_within);
            }
          ])
