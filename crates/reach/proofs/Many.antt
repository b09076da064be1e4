-- The bits of many words, one after another.
use Rattle.std.proofs.Common.{◌≡◌, ℕ, ◌+◌, ◌*◌, ◌/◌, ◌%◌, ◌^◌, ◌<◌, ◌≤◌, List, length, get_or, refl, ◌∙◌, ap, inl, inr, arith, get_or-set_other}
use Rattle.std.proofs.Common.{get_or-set_same}
use Rattle.std.specs.Prelude.{◌⊎◌, ◌↔◌, bit_and, bit_or, sum}
use Rattle.std.specs.Int.{bit_not, trailing_zeros, w64}
use Rattle.std.proofs.Math.ListN.{set}
use Rattle.std.proofs.lemmas.Bool.{cases_eq}
use Rattle.std.proofs.lemmas.List.Sums.{sum_by-set}
use Rattle.std.proofs.lemmas.Nat.{and_le_l, or_lt, pow_pos}
use Rattle.std.proofs.Math.Nat.{mod-lt}
use Rattle.reach.specs.Bits.{Bit, HasBit, IsTaken}
use Rattle.reach.proofs.Words.{bit_and_l, bit_or_l, bit_set_cases, bit_set_same, bit_cleared, bit_not_cleared, lowest_bit, less_by_bit}

-- what holds of a value holds at the index at which it was written
pub at_same : {A : Type 0} (P : A → Type 0) (xs : List A) (i : ℕ) (v : A) (j : ℕ) (d : A) → i < length xs → j ≡ i → P v → P (get_or (set xs i v) j d)
at_same {A} P xs i v j d within e h = grind (arith, get_or-set_same)

pub at_other : {A : Type 0} (P : A → Type 0) (xs : List A) (i : ℕ) (v : A) (j : ℕ) (d : A) → (j ≡ i → ⊥) → P (get_or xs j d) → P (get_or (set xs i v) j d)
at_other P xs i v j d ne h = grind (arith, get_or-set_other)

pub at_cases : {A G : Type 0} (P : A → Type 0) (xs : List A) (i : ℕ) (v : A) (j : ℕ) (d : A) → i < length xs → P (get_or (set xs i v) j d)
    → (j ≡ i → P v → G) → ((j ≡ i → ⊥) → P (get_or xs j d) → G) → G
at_cases {A} P xs i v j d within h f g = grind (arith, cases_eq, get_or-set_same, get_or-set_other)

-- a word that was written has its bits at its index
pub wrote_same : (xs : List ℕ) (i v j k : ℕ) → i < length xs → j ≡ i → Bit v k → Bit (get_or (set xs i v) j 0) k
wrote_same xs i v j k = at_same (λ (w : ℕ). Bit w k) xs i v j 0

pub wrote_other : (xs : List ℕ) (i v j k : ℕ) → (j ≡ i → ⊥) → Bit (get_or xs j 0) k → Bit (get_or (set xs i v) j 0) k
wrote_other xs i v j k = at_other (λ (w : ℕ). Bit w k) xs i v j 0

pub wrote_cases : {G : Type 0} (xs : List ℕ) (i v j k : ℕ) → i < length xs → Bit (get_or (set xs i v) j 0) k
    → (j ≡ i → Bit v k → G) → ((j ≡ i → ⊥) → Bit (get_or xs j 0) k → G) → G
wrote_cases xs i v j k = at_cases (λ (w : ℕ). Bit w k) xs i v j 0

pub moved : (xs : List ℕ) (i j k : ℕ) → j ≡ i → Bit (get_or xs i 0) k → Bit (get_or xs j 0) k
moved xs i j k e h = search

-- setting one bit of a word adds this bit to the bits of the words
pub added : (words : List ℕ) (row : ℕ) → row / 64 < length words
    → (k : ℕ) → HasBit (set words (row / 64) (bit_or (get_or words (row / 64) 0) (1 * 2 ^ (row % 64) % 2 ^ 64))) k ↔ (HasBit words k ⊎ (k ≡ row))
added words row within k = (there, back)
  where
    i : ℕ
    i = row / 64

    word : ℕ
    word = bit_or (get_or words (row / 64) 0) (1 * 2 ^ (row % 64) % 2 ^ 64)

    there : HasBit (set words i word) k → HasBit words k ⊎ (k ≡ row)
    there h = wrote_cases words i word (k / 64) (k % 64) within h
        (λ e b. bit_set_cases (get_or words i 0) (row % 64) (k % 64) (omega arith) b (λ old. inl (moved words i (k / 64) (k % 64) e old))
        (λ same. inr (omega arith)))
        (λ _ old. inl old)

    back : HasBit words k ⊎ (k ≡ row) → HasBit (set words i word) k
    back (inl old) = grind (arith, cases_eq, wrote_same, bit_or_l, moved, wrote_other)
    back (inr e) = grind (arith, wrote_same, bit_set_same)

-- clearing one bit of a word takes this bit from the bits of the words
pub taken_bit : (words : List ℕ) (i word bit : ℕ) → i < length words → word ≡ get_or words i 0 → bit < 64 → Bit word bit
    → IsTaken words (64 * i + bit) (set words i (bit_and word (bit_not w64 (1 * 2 ^ bit % 2 ^ 64))))
taken_bit words i word bit within is in_word set_there = grind (arith, was, others_there, others_back, less)
  where
    rest : ℕ
    rest = bit_and word (bit_not w64 (1 * 2 ^ bit % 2 ^ 64))

    at_word : (64 * i + bit) / 64 ≡ i
    at_word = let b = in_word in omega arith

    at_bit : (64 * i + bit) % 64 ≡ bit
    at_bit = let b = in_word in omega arith

    here : (k : ℕ) → k / 64 ≡ i → HasBit words k → Bit word (k % 64)
    here k e h = grind arith

    was : HasBit words (64 * i + bit)
    was = moved words i _ _ at_word (rw (← at_bit, is) at set_there)

    others_there : (k : ℕ) → HasBit (set words i rest) k → HasBit words k × (k ≡ 64 * i + bit → ⊥)
    others_there k h = wrote_cases words i rest (k / 64) (k % 64) within h
        (λ e b. grind (arith, moved, bit_and_l, bit_cleared, at_bit))
        (λ ne old. (old, (λ same. ne (ap (λ n. n / 64) same ∙ at_word))))

    others_back : (k : ℕ) → HasBit words k × (k ≡ 64 * i + bit → ⊥) → HasBit (set words i rest) k
    others_back k (h, ne) = grind (arith, cases_eq, wrote_same, bit_not_cleared, wrote_other, here)

    less : sum (set words i rest) < sum words
    less = let smaller = less_by_bit word rest bit (and_le_l word _) set_there (λ b. bit_cleared word bit bit in_word b refl) in
        omega (arith, sum_by-set (λ x. x) words i rest 0 within)

-- clearing the lowest bit of a word takes this bit from the bits of the words
pub taken : (words : List ℕ) (i word : ℕ) → i < length words → word ≡ get_or words i 0 → 0 < word → word < 2 ^ 64
    → IsTaken words (64 * i + trailing_zeros w64 word) (set words i (bit_and word (bit_not w64 (1 * 2 ^ trailing_zeros w64 word % 2 ^ 64))))
taken words i word within is some fits = let low = lowest_bit word some fits in taken_bit words i word (trailing_zeros w64 word) within is low.0 low.1

pub weight_set : (words : List ℕ) (i word : ℕ) → i < length words → word < 2 ^ 64 → sum (set words i word) ≤ sum words + 2 ^ 64
weight_set words i word within fits = omega (arith, sum_by-set (λ x. x) words i word 0 within)

pub with_bit_fits : (word s : ℕ) → word < 2 ^ 64 → bit_or word (1 * 2 ^ s % 2 ^ 64) < 2 ^ 64
with_bit_fits word s fits = search (or_lt, mod-lt, pow_pos)

-- a bit of the words is the one that is taken, or one of the rest
pub taken_cases : (words : List ℕ) (bit : ℕ) (rest : List ℕ) → IsTaken words bit rest → (k : ℕ) → HasBit words k → (k ≡ bit) ⊎ HasBit rest k
taken_cases words bit rest t k h = grind (arith, cases_eq)
