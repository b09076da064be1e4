-- The bits of a word: of `&`, `|`, `!`, shifts, and where two words differ.
use Rattle.std.proofs.Common.{◌≡◌, ℕ, ◌+◌, ◌-◌, ◌*◌, ◌/◌, ◌%◌, ◌^◌, ◌<◌, ◌≤◌, sym, ◌∙◌, ap, inl, inr, arith}
use Rattle.std.specs.Prelude.{bit_and, bit_or}
use Rattle.std.specs.Int.{bit_at, bit_not, trailing_zeros, w64}
use Rattle.std.proofs.lemmas.Bool.{cases_lt, cases_eq, eq-eqb, eqb-true}
use Rattle.std.proofs.lemmas.Nat.{shr-shr, shr_split, pow_pos, le_or_l}
use Rattle.std.proofs.Math.Nat.{mod-lt, add-zero}
use Rattle.std.proofs.lemmas.Nat.Bits.{bit_at-lt, bit_at_and, bit_at_or, bit_at_above, bit_at_cat_low, bit_at_cat_high, bit_at-zero, bit_at_set_same}
use Rattle.std.proofs.lemmas.Nat.Bits.{bit_at_set_other, bit_at_clear_same, bit_at_clear_other, bit_at-trailing_zeros, bit_at_not, same_from_bits}
use Rattle.reach.specs.Bits.{Bit}

pub bit_of : (a k : ℕ) → bit_at a k ≡ 1 → Bit a k
bit_of a k e = search (eq-eqb)

pub is_one : {a k : ℕ} → Bit a k → bit_at a k ≡ 1
is_one {a = a} {k = k} b = eqb-true (bit_at a k) 1 b.is

-- a bit is set or not
pub bit_cases : {G : Type 0} (a k : ℕ) → (Bit a k → G) → (bit_at a k ≡ 0 → G) → G
bit_cases a k f g = grind (arith, cases_lt, bit_of)

pub no_bit_zero : (k : ℕ) → Bit 0 k → ⊥
no_bit_zero k b = grind (arith, is_one, bit_at-zero)

pub not_both : (a k : ℕ) → bit_at a k ≡ 0 → Bit a k → ⊥
not_both a k z b = let e = is_one b in omega arith

-- bits of a word lie below its width
pub bit_below : (a w k : ℕ) → a < 2 ^ w → Bit a k → k < w
bit_below a w k fits b = grind (arith, cases_lt, not_both, bit_at_above)

-- the bits of `a & b`
pub bit_and_l : (a b k : ℕ) → Bit (bit_and a b) k → Bit a k
bit_and_l a b k h = grind (arith, bit_of, is_one, bit_at_and, bit_at-lt)

pub bit_and_r : (a b k : ℕ) → Bit (bit_and a b) k → Bit b k
bit_and_r a b k h = grind (arith, bit_of, is_one, bit_at_and, bit_at-lt)

pub bit_and_from : (a b k : ℕ) → Bit a k → Bit b k → Bit (bit_and a b) k
bit_and_from a b k h g = search (bit_of, is_one, bit_at_and)

-- the bits of `a | b`
pub bit_or_cases : {G : Type 0} (a b k : ℕ) → Bit (bit_or a b) k → (Bit a k → G) → (Bit b k → G) → G
bit_or_cases a b k h f g = grind (arith, bit_cases, bit_of, is_one, bit_at_or)

pub bit_or_l : (a b k : ℕ) → Bit a k → Bit (bit_or a b) k
bit_or_l a b k h = grind (arith, bit_of, is_one, bit_at_or)

pub bit_or_r : (a b k : ℕ) → Bit b k → Bit (bit_or a b) k
bit_or_r a b k h = grind (arith, bit_of, is_one, bit_at_or)

-- the bits of `a >> s`
bit_at_shr : (a s k : ℕ) → bit_at (a / 2 ^ s) k ≡ bit_at a (s + k)
bit_at_shr a s k = search (shr-shr)

pub bit_shr : (a s k : ℕ) → Bit (a / 2 ^ s) k → Bit a (s + k)
bit_shr a s k h = grind (arith, bit_of, bit_at_shr, is_one)

pub bit_shr_from : (a s k : ℕ) → Bit a (s + k) → Bit (a / 2 ^ s) k
bit_shr_from a s k h = search (bit_of, bit_at_shr, is_one)

-- the low bits of a word
pub bit_at_low : (a w k : ℕ) → k < w → bit_at (a % 2 ^ w) k ≡ bit_at a k
bit_at_low a w k h = sym (bit_at_cat_low (a / 2 ^ w) w (a % 2 ^ w) k h) ∙ ap (λ v. bit_at v k) (shr_split a w)

-- the bits of `a << s` at w bits
pub bit_shl : (a s w k : ℕ) → Bit (a * 2 ^ s % 2 ^ w) k → (k < w) × (s ≤ k) × Bit a (k - s)
bit_shl a s w k h =
    let below : k < w = search (bit_below, mod-lt, pow_pos) in
    let here : bit_at (a * 2 ^ s + 0) k ≡ 1 = grind (arith, add-zero, bit_at_low, is_one) in
    grind (arith, cases_lt, bit_at_cat_low, bit_at-zero, bit_of, bit_at_cat_high, pow_pos)

pub bit_shl_from : (a s w k : ℕ) → k < w → s ≤ k → Bit a (k - s) → Bit (a * 2 ^ s % 2 ^ w) k
bit_shl_from a s w k below high h =
    bit_of (a * 2 ^ s % 2 ^ w) k (bit_at_low (a * 2 ^ s) w k below ∙ ap (λ v. bit_at v k) (sym (add-zero (a * 2 ^ s)))
    ∙ bit_at_cat_high a s 0 k (pow_pos s) high ∙ is_one h)

-- the bits of `a | 1 << s` and `a & !(1 << s)` at 64 bits
pub bit_set_cases : {G : Type 0} (a s k : ℕ) → s < 64 → Bit (bit_or a (1 * 2 ^ s % 2 ^ 64)) k → (Bit a k → G) → (k ≡ s → G) → G
bit_set_cases a s k within h f g = elim (cases_eq k s) [ inl e ↦ g e | inr ne ↦ f (bit_of a k (sym (bit_at_set_other w64 a s within k ne) ∙ is_one h)) ]

pub bit_set_same : (a s : ℕ) → s < 64 → Bit (bit_or a (1 * 2 ^ s % 2 ^ 64)) s
bit_set_same a s within = bit_of _ s (bit_at_set_same w64 a s within)

pub bit_cleared : (a s k : ℕ) → s < 64 → Bit (bit_and a (bit_not w64 (1 * 2 ^ s % 2 ^ 64))) k → k ≡ s → ⊥
bit_cleared a s k within h e = let is = is_one h in let none = ap (λ i. bit_at (bit_and a (bit_not w64 (1 * 2 ^ s % 2 ^ 64))) i) e
    ∙ bit_at_clear_same w64 a s within in omega arith

pub bit_not_cleared : (a s k : ℕ) → s < 64 → k < 64 → (k ≡ s → ⊥) → Bit a k → Bit (bit_and a (bit_not w64 (1 * 2 ^ s % 2 ^ 64))) k
bit_not_cleared a s k within below ne h = bit_of _ k (bit_at_clear_other w64 a s within k below ne ∙ is_one h)

-- the lowest set bit of a word that isn't 0
pub lowest_bit : (a : ℕ) → 0 < a → a < 2 ^ 64 → (trailing_zeros w64 a < 64) × Bit a (trailing_zeros w64 a)
lowest_bit a some fits = let low = bit_at-trailing_zeros w64 a some fits in (low.0, bit_of a (trailing_zeros w64 a) low.1)

-- a word that lacks a bit of another, and has none that the other lacks, is less
pub less_by_bit : (a b k : ℕ) → b ≤ a → Bit a k → (Bit b k → ⊥) → b < a
less_by_bit a b k le has lacks = grind (arith, cases_lt)

-- the bits of `!a` at 64 bits
pub bit_not_l : (a k : ℕ) → a < 2 ^ 64 → Bit (bit_not w64 a) k → Bit a k → ⊥
bit_not_l a k fits h g =
    let below : k < 64 = bit_below (bit_not w64 a) 64 k (omega arith) h in
    let e = bit_at_not w64 a k fits below in
    grind arith

pub bit_not_from : (a k : ℕ) → a < 2 ^ 64 → k < 64 → bit_at a k ≡ 0 → Bit (bit_not w64 a) k
bit_not_from a k fits below none = bit_of (bit_not w64 a) k (let e = bit_at_not w64 a k fits below in omega arith)

-- a word with all bits of another is no less
pub le_by_bits : (a b : ℕ) → ((k : ℕ) → Bit a k → Bit b k) → a ≤ b
le_by_bits a b f = rw (same_from_bits (bit_or a b) b same) at (le_or_l a b)
  where
    same : (k : ℕ) → bit_at (bit_or a b) k ≡ bit_at b k
    same k = bit_cases a k
        (λ h. search (is_one, bit_at_or))
        (λ z. omega (arith, bit_at_or a b k))
