-- 64 bits from a bit on, which are in one word or across two.
-- Bit n + k is in the word of n if n % 64 + k is below 64, and in the next word otherwise. So the low bits come from
-- shifting the first word down, and the others from shifting the next word up. To set such bits, shift the other way.
use Rattle.std.proofs.Common.{◌≡◌, ◌≢◌, ℕ, ◌+◌, ◌-◌, ◌*◌, ◌/◌, ◌%◌, ◌^◌, ◌<◌, ◌≤◌, Bool, false, ◌&&◌, ◌||◌, List, length, get_or, set, sym, ◌∙◌, ap, arith}
use Rattle.std.proofs.Common.{add-zero, length-set}
use Rattle.std.specs.Prelude.{nat_eq, bit_or, bit_and}
use Rattle.std.proofs.lemmas.Bool.{cases_eq, cases_lt}
use Rattle.std.proofs.lemmas.Nat.{and_mask, one_shl, pow-add, pow_pos}
use Rattle.std.proofs.lemmas.Nat.Bits.{bit_at_ones, bit_at_ones_above, bit_at_above, bit_at_cat_low, bit_at_cat_high, bit_at-zero}
use Rattle.std.proofs.Math.Nat.{div-div-eq-div-mul}
use Rattle.std.proofs.Math.Bool.{or-false, and-true, and-false}
use Rattle.cellset.specs.Bits.{bit, has_bit}
use Rattle.cellset.proofs.Truth.{either}
use Rattle.cellset.proofs.Bits.{bit-or, bit-and, word_here, word_apart}
use Rattle.cellset.proofs.WordLoops.{bit_there, none_past}

-- ---- a shift of one word
bit_cut : (x k : ℕ) → k < 64 → bit (x % 2 ^ 64) k ≡ bit x k
bit_cut x k small =
    ap (λ w. bit w k) (sym (and_mask x 64)) ∙ bit-and x (2 ^ 64 - 1) k ∙ ap (λ b. bit x k && nat_eq b 1) (bit_at_ones 64 k small) ∙ and-true (bit x k)

pub bit_down : (w s k : ℕ) → bit (w / 2 ^ s) k ≡ bit w (s + k)
bit_down w s k = search (div-div-eq-div-mul, pow-add)

pub bit_up : (v s k : ℕ) → k < 64 → s ≤ k → bit (v * 2 ^ s % 2 ^ 64) k ≡ bit v (k - s)
bit_up v s k small from = bit_cut (v * 2 ^ s) k small ∙ ap (λ x. bit x k) (sym (add-zero (v * 2 ^ s)))
    ∙ ap (λ b. nat_eq b 1) (bit_at_cat_high v s 0 k (pow_pos s) from)

pub bit_up_below : (v s k : ℕ) → k < 64 → k < s → bit (v * 2 ^ s % 2 ^ 64) k ≡ false
bit_up_below v s k small below = bit_cut (v * 2 ^ s) k small ∙ ap (λ x. bit x k) (sym (add-zero (v * 2 ^ s)))
    ∙ ap (λ b. nat_eq b 1) (bit_at_cat_low v s 0 k below ∙ bit_at-zero k)

pub bit_past : (w k : ℕ) → w < 2 ^ 64 → 64 ≤ k → bit w k ≡ false
bit_past w k fits past = ap (λ b. nat_eq b 1) (bit_at_above w 64 k fits past)

-- a mask keeps the first c bits of a number
pub first_inside : (w c k : ℕ) → c < 64 → k < c → bit (bit_and w (1 * 2 ^ c % 2 ^ 64 - 1)) k ≡ bit w k
first_inside w c k few below = search (one_shl, bit-and, bit_at_ones, and-true)

pub first_outside : (w c k : ℕ) → c < 64 → c ≤ k → bit (bit_and w (1 * 2 ^ c % 2 ^ 64 - 1)) k ≡ false
first_outside w c k few past = search (one_shl, bit-and, bit_at_ones_above, and-false)

-- ---- bits taken
abbrev word_of : List ℕ → ℕ → ℕ
word_of words n = get_or words (n / 64) 0

taken_low : (words : List ℕ) (n k : ℕ) → n % 64 + k < 64 → bit (word_of words n / 2 ^ (n % 64)) k ≡ has_bit words (n + k)
taken_low words n k inside = grind (arith, bit_down, bit_there)

taken_past : (words : List ℕ) (n k : ℕ) → word_of words n < 2 ^ 64 → 64 ≤ n % 64 + k → bit (word_of words n / 2 ^ (n % 64)) k ≡ false
taken_past words n k fits past = search (bit_down, bit_past)

pub taken_whole : (words : List ℕ) (n : ℕ) → word_of words n < 2 ^ 64 → n % 64 ≡ 0 → (k : ℕ) → k < 64
    → bit (word_of words n / 2 ^ (n % 64)) k ≡ has_bit words (n + k)
taken_whole words n fits none k small = taken_low words n k (omega arith)

pub taken_last : (words : List ℕ) (n : ℕ) → word_of words n < 2 ^ 64 → n / 64 + 1 ≡ length words → (k : ℕ) → k < 64
    → bit (word_of words n / 2 ^ (n % 64)) k ≡ has_bit words (n + k)
taken_last words n fits last k small = grind (arith, either, cases_lt, taken_low, taken_past, none_past)

pub taken_both : (words : List ℕ) (n : ℕ) → word_of words n < 2 ^ 64 → (k : ℕ) → k < 64
    → bit (bit_or (word_of words n / 2 ^ (n % 64)) (get_or words (n / 64 + 1) 0 * 2 ^ (64 - n % 64) % 2 ^ 64)) k ≡ has_bit words (n + k)
taken_both words n fits k small = grind (arith, bit-or, either, cases_lt, taken_low, bit_up_below, or-false, taken_past, bit_up, bit_there)

-- ---- bits set
abbrev joined : List ℕ → ℕ → ℕ → List ℕ
joined words i v = set words i (bit_or (get_or words i 0) v)

joined_here : (words : List ℕ) (i v k : ℕ) → i < length words → k / 64 ≡ i → has_bit (joined words i v) k ≡ (has_bit words k || bit v (k % 64))
joined_here words i v k lt e = grind (arith, word_here, bit-or)

joined_apart : (words : List ℕ) (i v k : ℕ) → k / 64 ≢ i → has_bit (joined words i v) k ≡ has_bit words k
joined_apart words i v k ne = search (word_apart)

abbrev up : ℕ → ℕ → ℕ
up n bits = bits * 2 ^ (n % 64) % 2 ^ 64

abbrev first_set : List ℕ → ℕ → ℕ → List ℕ
first_set words n bits = joined words (n / 64) (up n bits)

abbrev both_set : List ℕ → ℕ → ℕ → List ℕ
both_set words n bits = joined (first_set words n bits) (n / 64 + 1) (bits / 2 ^ (64 - n % 64))

unchanged : (words : List ℕ) (k : ℕ) (b : Bool) → b ≡ false → has_bit words k ≡ (has_bit words k || b)
unchanged words k b none = grind (arith, or-false)

pub first_before : (words : List ℕ) (n bits : ℕ) → n / 64 < length words → (k : ℕ) → k < n → has_bit (first_set words n bits) k ≡ has_bit words k
first_before words n bits lt k before = grind (arith, either, cases_eq, joined_here, unchanged, bit_up_below, joined_apart)

first_here : (words : List ℕ) (n bits : ℕ) → n / 64 < length words → (k : ℕ) → n ≤ k → k / 64 ≡ n / 64
    → has_bit (first_set words n bits) k ≡ (has_bit words k || bit bits (k - n))
first_here words n bits lt k from e = grind (arith, joined_here, bit_up)

-- 64 bits that are set within one word, because no more of them fall in the next
pub first_from : (words : List ℕ) (n bits : ℕ) → n / 64 < length words → bits < 2 ^ 64 → (k : ℕ) → n ≤ k → (k / 64 ≢ n / 64 → 64 ≤ k - n)
    → has_bit (first_set words n bits) k ≡ (has_bit words k || bit bits (k - n))
first_from words n bits lt fits k from far = grind (arith, either, cases_eq, first_here, joined_apart, unchanged, bit_past)

pub both_before : (words : List ℕ) (n bits : ℕ) → n / 64 < length words → (k : ℕ) → k < n → has_bit (both_set words n bits) k ≡ has_bit words k
both_before words n bits lt k before = grind (arith, joined_apart, first_before)

pub both_from : (words : List ℕ) (n bits : ℕ) → n / 64 + 1 < length words → bits < 2 ^ 64 → (k : ℕ) → n ≤ k
    → has_bit (both_set words n bits) k ≡ (has_bit words k || bit bits (k - n))
both_from words n bits lt fits k from =
    let down = bits / 2 ^ (64 - n % 64) in
    either (cases_eq (k / 64) (n / 64 + 1))
    (λ e.
    let there : 64 - n % 64 + k % 64 ≡ k - n = omega (arith, from, e) in
    joined_here (first_set words n bits) (n / 64 + 1) down k (rw length-set lt) e
    ∙ (λ i. joined_apart words (n / 64) (up n bits) k (λ f. omega (arith, e, f)) i || (bit_down bits (64 - n % 64) (k % 64) ∙ ap (bit bits) there) i))
    (λ ne. joined_apart (first_set words n bits) (n / 64 + 1) down k ne
    ∙ first_from words n bits (omega (arith, lt)) fits k from (λ other. omega (arith, from, ne, other)))
