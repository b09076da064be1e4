-- Loops over words: the search for the first set bit, and the count of set bits.
-- The search holds a word whose bits from n on are the bits of word i, and has found none before.
-- The count of a word is the sum of its bits, so each word adds its count to that of the bits below it.
use Rattle.std.proofs.Common.{◌≡◌, ◌≢◌, ℕ, zero, suc, ◌+◌, ◌-◌, ◌*◌, ◌/◌, ◌%◌, ◌^◌, ◌<◌, ◌≤◌, Bool, true, false, cond, not, ◌&&◌, List, [], ◌∷◌, length, get_or}
use Rattle.std.proofs.Common.{replicate, Some, refl, sym, ◌∙◌, ap, arith}
use Rattle.std.specs.Prelude.{nat_eq, bit_or, bit_and}
use Rattle.std.proofs.lemmas.Bool.{false≢true, cases_lt}
use Rattle.std.proofs.lemmas.Nat.Bits.{bit_at-zero, bit_at-suc, bit_at_lowest, bit_at-lt, bit_at_mask_inside, bit_at_mask_below, bit_at_or, same_from_bits}
use Rattle.std.proofs.lemmas.Nat.Bits.{ones_shl, bit_at-trailing_zeros}
use Rattle.std.specs.Int.{bit_not, w64, trailing_zeros}
use Rattle.std.specs.Int.Bits.{and_lt}
use Rattle.std.specs.Prelude.{count_ones}
use Rattle.std.specs.Int.Count.{ones_step}
use Rattle.std.proofs.lemmas.Nat.{ones-le}
use Rattle.std.proofs.Math.Bool.{and-false, and-true}
use Rattle.cellset.specs.Bits.{bit, has_bit, bits_below, IsFirstBit}
use Rattle.cellset.proofs.Truth.{either}
use Rattle.cellset.proofs.Bits.{bit-and, bit-not}

-- ---- no bits
pub zero_bit : (i : ℕ) → bit 0 i ≡ false
zero_bit i = search (bit_at-zero)

pub none_in_zeros : (n k : ℕ) → has_bit (replicate n zero) k ≡ false
none_in_zeros n k = ap (λ w. bit w (k % 64)) (zero_at n (k / 64)) ∙ zero_bit (k % 64)
  where
    zero_at : (n i : ℕ) → get_or (replicate n zero) i 0 ≡ 0
    zero_at zero i = refl
    zero_at (suc n) zero = refl
    zero_at (suc n) (suc i) = zero_at n i

pub word_past : (words : List ℕ) (i : ℕ) → length words ≤ i → get_or words i 0 ≡ 0
word_past [] i h = refl
word_past (w ∷ ws) zero h = absurd (omega arith)
word_past (w ∷ ws) (suc i) h = word_past ws i (omega arith)

pub or_zero : (a b : ℕ) → b ≡ 0 → a ≡ bit_or a b
or_zero a b none = same_from_bits a (bit_or a b) (λ i. grind (arith, bit_at_or, bit_at-zero))

pub none_past : (words : List ℕ) (k : ℕ) → length words ≤ k / 64 → has_bit words k ≡ false
none_past words k past = search (word_past, zero_bit)

-- bit 64 * i + j is bit j of word i
pub bit_there : (words : List ℕ) (i j : ℕ) → j < 64 → has_bit words (64 * i + j) ≡ bit (get_or words i 0) j
bit_there words i j small = grind arith

-- ---- the search
pub record IsSearched (words : List ℕ) (n i word : ℕ) : Type 0 where
  pub within : i < length words
  pub from : n / 64 ≤ i
  pub fits : word < 2 ^ 64
  pub same : (j : ℕ) → j < 64 → n ≤ 64 * i + j → bit word j ≡ has_bit words (64 * i + j)
  pub masked : (j : ℕ) → j < 64 → 64 * i + j < n → bit word j ≡ false
  pub passed : (k : ℕ) → n ≤ k → k < 64 * i → has_bit words k ≡ false

-- the word whose bits from k on are set
abbrev mask_from : ℕ → ℕ
mask_from k = (2 ^ 64 - 1) * 2 ^ k % 2 ^ 64

mask_inside : (k j : ℕ) → k ≤ j → j < 64 → bit (mask_from k) j ≡ true
mask_inside k j low high = ap (λ m. bit m j) (ones_shl 64 k (omega arith)) ∙ ap (λ b. nat_eq b 1) (bit_at_mask_inside k 64 j low high)

mask_below : (k j : ℕ) → j < k → k ≤ 64 → bit (mask_from k) j ≡ false
mask_below k j low high = search (ones_shl, bit_at_mask_below)

pub search_starts : (words : List ℕ) (n : ℕ) → n / 64 < length words → get_or words (n / 64) 0 < 2 ^ 64
    → IsSearched words n (n / 64) (bit_and (get_or words (n / 64) 0) (mask_from (n % 64)))
search_starts words n lt fits =
    let w = get_or words (n / 64) 0 in
    let mask = mask_from (n % 64) in
    record {
      within = lt;
      from = omega arith;
      fits = and_lt 64 w mask fits (omega arith);
      same = λ j small from. grind (arith, bit-and, mask_inside, and-true, bit_there);
      masked = λ j small before. grind (arith, bit-and, mask_below, and-false);
      passed = λ k low high. absurd (omega arith);
    }

pub search_finds : (words : List ℕ) (n i word : ℕ) → IsSearched words n i word → word ≢ 0 → IsFirstBit words n (Some (64 * i + trailing_zeros w64 word))
search_finds words n i word s some =
    let t = trailing_zeros w64 word in
    let lowest = bit_at-trailing_zeros w64 word (omega arith) s.fits in
    grind arith

-- ---- the count
abbrev one_if : Bool → ℕ
one_if b = cond b 1 0

-- how many of a number's first m bits are set
ones_below : ℕ → ℕ → ℕ
ones_below w zero = 0
ones_below w (suc m) = ones_below w m + one_if (bit w m)

bit_counted : (a : ℕ) → a < 2 → one_if (nat_eq a 1) ≡ a
bit_counted zero h = refl
bit_counted (suc zero) h = refl
bit_counted (suc (suc a)) h = absurd (omega arith)

-- the count of a number's first bits is its lowest bit and the count of its half
ones_front : (w m : ℕ) → ones_below w (suc m) ≡ w % 2 + ones_below (w / 2) m
unfolding ones_below
ones_front w zero = grind (arith, bit_counted, bit_at-lt, bit_at_lowest)
ones_front w (suc m) = grind (arith, bit_at-suc, ones_front w m)

ones_all : (m w : ℕ) → w < 2 ^ m → ones_below w m ≡ count_ones w
unfolding ones_below
ones_all zero w h = grind (arith, ones-le)
ones_all (suc m) w h = ones_front w m ∙ ap (λ n. w % 2 + n) (ones_all m (w / 2) (omega arith)) ∙ sym (ones_step w)

count_within : (words : List ℕ) (i m : ℕ) → m ≤ 64 → bits_below words (64 * i + m) ≡ bits_below words (64 * i) + ones_below (get_or words i 0) m
unfolding bits_below ones_below
count_within words i zero h = grind arith
count_within words i (suc m) h =
    let rest = count_within words i m (omega arith) in
    let here = ap one_if (bit_there words i m (omega arith)) in
    let up : 64 * i + suc m ≡ suc (64 * i + m) = omega arith in
    ap (bits_below words) up ∙ (omega arith)

pub count_starts : (words : List ℕ) → 0 ≡ bits_below words 0
unfolding bits_below
count_starts words = refl

pub count_word : (words : List ℕ) (i : ℕ) → get_or words i 0 < 2 ^ 64
    → bits_below words (64 * (i + 1)) ≡ bits_below words (64 * i) + count_ones (get_or words i 0)
count_word words i fits =
    let up : 64 * (i + 1) ≡ 64 * i + 64 = omega arith in
    grind (arith, count_within, ones_all)

-- at most n of the first n bits are set
pub count_le : (words : List ℕ) (n : ℕ) → bits_below words n ≤ n
unfolding bits_below
count_le words zero = omega arith
count_le words (suc n) = let rest = count_le words n in let one = at_most_one (has_bit words n) in omega arith
  where
    at_most_one : (b : Bool) → one_if b ≤ 1
    at_most_one true = omega arith
    at_most_one false = omega arith

-- if no bit is set from n on, the count stays the same from there
pub count_clear : (words : List ℕ) (n d : ℕ) → ((k : ℕ) → n ≤ k → has_bit words k ≡ false) → bits_below words (n + d) ≡ bits_below words n
unfolding bits_below
count_clear words n zero clear = grind arith
count_clear words n (suc d) clear =
    let rest = count_clear words n d clear in
    let none = ap one_if (clear (n + d) (omega arith)) in
    let up : n + suc d ≡ suc (n + d) = omega arith in
    ap (bits_below words) up ∙ (omega arith)

-- ---- words that are within others
within_false : (a b : Bool) → (a && not b) ≡ false → a ≡ true → b ≡ true
within_false true true h e = refl
within_false true false h e = absurd (false≢true (sym h))
within_false false b h e = absurd (false≢true e)

outside_true : (a b : Bool) → (a && not b) ≡ true → (a ≡ true) × (b ≡ false)
outside_true true true h = absurd (false≢true h)
outside_true true false h = (refl, refl)
outside_true false b h = absurd (false≢true h)

pub all_within : (words others : List ℕ) → ((i : ℕ) → get_or others i 0 < 2 ^ 64)
    → ((i : ℕ) → i < length words → bit_and (get_or words i 0) (bit_not w64 (get_or others i 0)) ≡ 0) → (n : ℕ) → has_bit words n ≡ true
    → has_bit others n ≡ true
all_within words others fits none n h =
    let a = get_or words (n / 64) 0 in
    let b = get_or others (n / 64) 0 in
    let inside : n / 64 < length words = grind (arith, either, cases_lt, false≢true, none_past) in
    let j = n % 64 in
    within_false (bit a j) (bit b j) (ap (λ c. bit a j && c) (sym (bit-not b j (fits (n / 64)) (omega arith))) ∙ sym (bit-and a (bit_not w64 b) j)
    ∙ ap (λ w. bit w j) (none (n / 64) inside) ∙ zero_bit j) h

pub one_outside : {G : Type 0} (words others : List ℕ) (i : ℕ) → ((i : ℕ) → get_or words i 0 < 2 ^ 64) → ((i : ℕ) → get_or others i 0 < 2 ^ 64)
    → bit_and (get_or words i 0) (bit_not w64 (get_or others i 0)) ≢ 0 → ((n : ℕ) → has_bit words n ≡ true → has_bit others n ≡ true) → G
one_outside words others i fits others_fit some all =
    let a = get_or words i 0 in
    let b = get_or others i 0 in
    let both = bit_and a (bit_not w64 b) in
    let t = trailing_zeros w64 both in
    let up = others_fit i in
    let lowest = bit_at-trailing_zeros w64 both (omega arith) (and_lt 64 a (bit_not w64 b) (fits i) (omega arith)) in
    let small = lowest.0 in
    let parts = outside_true (bit a t) (bit b t) (ap (λ c. bit a t && c) (sym (bit-not b t up small)) ∙ sym (bit-and a (bit_not w64 b) t)
    ∙ ap (λ v. nat_eq v 1) lowest.1) in
    absurd (false≢true (sym parts.1 ∙ sym (bit_there others i t small) ∙ all (64 * i + t) (bit_there words i t small ∙ parts.0)))

-- four words add the counts of their bits to the count before them
pub count_four : (words : List ℕ) (i : ℕ) → ((k : ℕ) → get_or words k 0 < 2 ^ 64) → bits_below words (64 * (i + 4)) ≡ bits_below words (64 * i) +
    (count_ones (get_or words i 0) + count_ones (get_or words (i + 1) 0) + count_ones (get_or words (i + 2) 0) + count_ones (get_or words (i + 3) 0))
count_four words i fits =
    let one = step i (i + 1) (omega arith) in
    let two = step (i + 1) (i + 2) (omega arith) in
    let three = step (i + 2) (i + 3) (omega arith) in
    grind (arith, step)
  where
    step : (j k : ℕ) → j + 1 ≡ k → bits_below words (64 * k) ≡ bits_below words (64 * j) + count_ones (get_or words j 0)
    step j k e = ap (λ n. bits_below words (64 * n)) (sym e) ∙ count_word words j (fits j)
