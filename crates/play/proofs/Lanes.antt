-- The bits of a number as lanes: eight of its low byte and eight of its high byte. Lane k of a byte holds the byte
-- masked by 2 ^ k, which is 2 ^ k if bit k is set and 0 if not. So a comparison with the mask gives the bit, and
-- selects the byte of the lane.
use Rattle.std.proofs.Common.{◌≡◌, inl, inr, ℕ, zero, suc, ◌+◌, ◌-◌, ◌*◌, ◌/◌, ◌%◌, ◌^◌, ◌<◌, Bool, true, false, cond, nat_eq, List, [], ◌∷◌}
use Rattle.std.proofs.Common.{◌++◌, get_or, refl, sym, ◌∙◌, ap, arith}
use Rattle.std.specs.Prelude.{bit_and}
use Rattle.std.proofs.lemmas.Bool.{eq-eqb, ne_eqb, cases_lt}
use Rattle.std.proofs.lemmas.List.{get_or_append_left, get_or-append_right}
use Rattle.std.proofs.lemmas.Nat.{pow_pos}
use Rattle.std.proofs.lemmas.Nat.Bits.{and_pow, bit_at-lt, bit_at_cat_low}
use Rattle.cellset.specs.Bits.{bit}
use Rattle.cellset.proofs.Shifts.{bit_down}
use Rattle.play.specs.declared.mailbox.TheConstants.{FREE, WALL}
use lib.Lanes.{top}

-- a number and its remainder by 65,536 have the same low 16 bits
pub low_bits : (n k : ℕ) → k < 16 → bit (n % 65536) k ≡ bit n k
low_bits n k small =
    let whole : n / 65536 * 2 ^ 16 + n % 65536 ≡ n = omega arith in
    ap (λ b. nat_eq b 1) (sym (bit_at_cat_low (n / 65536) 16 (n % 65536) k small)) ∙ ap (λ m. bit m k) whole

low_bit : (n : ℕ) {k : ℕ} → k < 8 → bit (n % 256) k ≡ bit n k
low_bit n {k} small =
    let whole : n / 256 * 2 ^ 8 + n % 256 ≡ n = omega arith in
    ap (λ b. nat_eq b 1) (sym (bit_at_cat_low (n / 256) 8 (n % 256) k small)) ∙ ap (λ m. bit m k) whole

times : (b p : ℕ) → b < 2 → 0 < p → nat_eq (b * p) p ≡ nat_eq b 1
times zero p lt some = grind (arith, ne_eqb)
times (suc zero) p lt some = grind (arith, eq-eqb)
times (suc (suc b)) p lt some = absurd (omega arith)

masked : (n k : ℕ) → nat_eq (bit_and n (2 ^ k)) (2 ^ k) ≡ bit n k
masked n k = search (and_pow, times, bit_at-lt, pow_pos)

tops : (b : Bool) → top 7 (cond b 255 0) ≡ b
tops true = refl
tops false = refl

-- the comparison of a masked lane with its mask
abbrev picks : ℕ → ℕ → Bool
picks n k = top 7 (cond (nat_eq (bit_and n (2 ^ k)) (2 ^ k)) 255 0)

picked : (n k : ℕ) → picks n k ≡ bit n k
picked n k = search (tops, masked)

-- the bytes of some lanes, from lane k on
abbrev pub lanes : ℕ → ℕ → ℕ → List ℕ
lanes floor k zero = []
lanes floor k (suc n) = cond (picks floor k) FREE WALL ∷ lanes floor (suc k) n

lane : (floor k n j : ℕ) → j < n → get_or (lanes floor k n) j 0 ≡ cond (bit floor (k + j)) FREE WALL
lane floor k zero j lt = absurd (omega arith)
lane floor k (suc n) zero lt = grind (arith, picked)
lane floor k (suc n) (suc j) lt = grind (arith, lane floor (suc k) n j (omega arith))

eight : (floor : ℕ) {j : ℕ} → j < 8 → get_or (lanes floor 0 8) j 0 ≡ cond (bit floor j) FREE WALL
eight floor {j} lt =
    let same : 0 + j ≡ j = omega arith in
    lane floor 0 8 j lt ∙ ap (λ m. cond (bit floor m) FREE WALL) same

-- the lanes of both bytes
abbrev pub both : ℕ → List ℕ
both floor = lanes (floor % 256) 0 8 ++ lanes (floor / 256) 0 8

pub sixteen : (floor : ℕ) {k : ℕ} → k < 16 → get_or (both floor) k 0 ≡ cond (bit floor k) FREE WALL
sixteen floor {k} lt = elim (cases_lt k 8) [
  | inl low ↦ get_or_append_left (lanes (floor % 256) 0 8) (lanes (floor / 256) 0 8) 0 k low
      ∙ eight (floor % 256) low ∙ (λ i. cond (low_bit floor low i) FREE WALL)
  | inr high ↦
      let there : 8 + (k - 8) ≡ k = omega arith in
      get_or-append_right (lanes (floor % 256) 0 8) (lanes (floor / 256) 0 8) 8 k 0 refl high ∙ eight (floor / 256) (omega arith)
      ∙ (λ i. cond (bit_down floor 8 (k - 8) i) FREE WALL) ∙ ap (λ j. cond (bit floor j) FREE WALL) there
]
