-- Blocks of characters as bits.
-- To compare all lanes with a character gives one bit per lane, and an `or` of such bits tests for several characters. A table of 16 lanes
-- is read at the low four bits of each byte.
use Rattle.std.proofs.Common.{◌≡◌, ◌%◌, eqb, replicate, bit_and, map, w8, Fits, ℕ}
use Rattle.std.proofs.Common.{◌<◌, ◌≤◌, Bool, true, false, cond, ◌||◌, ◌==◌, List, length}
use Rattle.std.proofs.Common.{get_or, refl, sym, ◌∙◌, ap, arith}
use Rattle.std.proofs.lemmas.Bool.{agree_below, agree_below_at}
use Rattle.std.proofs.lemmas.List.{get_or_past, length-map, get_or-map, ext_get_or}
use Rattle.std.proofs.lemmas.Nat.{and_le_r}
use Rattle.std.specs.Prelude.{◌^◌, nat_eq, bit_or}
use Rattle.std.specs.Simd.Lanes.{mask_l, top, Each1}
use Rattle.std.proofs.Math.Bool.{or-false}
use Rattle.std.proofs.lemmas.Simd.{bit_mask_l, mask_l-mod, Each1-get_or, Each1-all, Each1-zip2, Each2-splat}
use Rattle.std.proofs.lemmas.Simd.{length-zip2, zip2_splat, swz_l, SwzOk, SwzOk-from_below, length-swz_l, get_or-swz_l_below}
use lib.Lanes.{zip2}
use Rattle.cellset.specs.Bits.{bit}
use Rattle.cellset.proofs.Bits.{bit-or}

one_is : (b : Bool) → nat_eq (cond b 1 0) 1 ≡ b
one_is true = refl
one_is false = refl

pub bit_of_lanes : (ms : List Bool) (k : ℕ) → bit (mask_l ms) k ≡ get_or ms k false
bit_of_lanes ms k = search (bit_mask_l, one_is)

pub one_of_two : (byte x y : ℕ) (one two k : ℕ) → bit one k ≡ (byte == x) → bit two k ≡ (byte == y)
    → bit (bit_or one two) k ≡ ((byte == x) || ((byte == y) || false))
one_of_two byte x y one two k is_x is_y = grind (arith, bit-or, or-false)

or_right : (a b c : Bool) → ((a || b) || c) ≡ (a || (b || c))
or_right true b c = refl
or_right false b c = refl

pub one_of_three : (byte x y z : ℕ) (one two three k : ℕ) → bit one k ≡ (byte == x) → bit two k ≡ (byte == y) → bit three k ≡ (byte == z)
    → bit (bit_or (bit_or one two) three) k ≡ ((byte == x) || ((byte == y) || ((byte == z) || false)))
one_of_three byte x y z one two three k is_x is_y is_z = grind (arith, bit-or, or_right, or-false)

-- the lane of a comparison: all bits set for equal bytes, and none otherwise
abbrev pub hit : ℕ → ℕ → ℕ
hit a b = cond (eqb a b) 255 0

pub of_kind : (lane : ℕ → ℕ) (is_kind : ℕ → Bool) (n : ℕ) (block lanes : List ℕ) → n ≤ 64 → (length block ≡ n) × Each1 (Fits w8) block
    → lanes ≡ map lane block → agree_below (λ b. top 7 (lane b)) is_kind 256 ≡ true
    → (k : ℕ) → k < n → bit (mask_l (map (top 7) lanes) % 2 ^ 64) k ≡ is_kind (get_or block k 0)
of_kind lane is_kind n block lanes most fits are agree k small =
    let within : k < length block = omega arith in
    let tops = map (top 7) (map lane block) in
    let few : length tops ≤ 64 = omega (arith, length-map block lane, length-map (map lane block) (top 7)) in
    ap (λ l. bit (mask_l (map (top 7) l) % 2 ^ 64) k) are ∙ ap (λ n. bit n k) (mask_l-mod tops 64 few) ∙ bit_of_lanes tops k
    ∙ get_or-map (top 7) (map lane block) k 0 false (omega (arith, length-map block lane)) ∙ ap (top 7) (get_or-map lane block k 0 0 within)
    ∙ agree_below_at (λ b. top 7 (lane b)) is_kind 256 (get_or block k 0) agree (Each1-get_or (Fits w8) block k 0 within fits.1).fits

-- past the lanes there is no bit
pub past_lanes : (lane : ℕ → ℕ) (n : ℕ) (block lanes : List ℕ) → n ≤ 64 → length block ≡ n → lanes ≡ map lane block → (k : ℕ) → n ≤ k
    → bit (mask_l (map (top 7) lanes) % 2 ^ 64) k ≡ false
past_lanes lane n block lanes most long are k past =
    let tops = map (top 7) (map lane block) in
    let few : length tops ≤ 64 = omega (arith, length-map block lane, length-map (map lane block) (top 7)) in
    ap (λ l. bit (mask_l (map (top 7) l) % 2 ^ 64) k) are ∙ ap (λ n. bit n k) (mask_l-mod tops 64 few) ∙ bit_of_lanes tops k
    ∙ get_or_past tops k false (omega (arith, length-map block lane, length-map (map lane block) (top 7)))

-- ---- a table of 16 lanes
-- Places by the low four bits of bytes lie in the table.
pub low_places : (v : List ℕ) → length v ≡ 16 → SwzOk w8 16 16 0 (zip2 bit_and v (replicate 16 15))
low_places v long =
    SwzOk-from_below w8 16 1 16 0 (zip2 bit_and v (replicate 16 15)) refl (omega (arith, length-zip2 bit_and v (replicate 16 15) long))
    (Each1-zip2 bit_and (λ j. j < 16) v (replicate 16 15)
    (Each2-splat (λ a b. bit_and a b < 16) v 16 15 (Each1-all (λ a. bit_and a 15 < 16) (λ a. omega (arith, and_le_r a 15)) v)))

-- Each lane has the entry of its byte.
pub looked_up : (table v : List ℕ) → length v ≡ 16 → swz_l w8 16 table 0 (zip2 bit_and v (replicate 16 15)) ≡ map (λ b. get_or table (bit_and b 15) 0) v
looked_up table v long =
    let low = λ (b : ℕ). bit_and b 15 in
    let places = zip2_splat bit_and v 16 15 long in
    ap (swz_l w8 16 table 0) places
    ∙ ext_get_or 0 _ _ (length-swz_l w8 16 table 0 (map low v) ∙ length-map v low ∙ sym (length-map v (λ b. get_or table (low b) 0))) (λ i h.
    let within : i < length v = omega (arith, length-swz_l w8 16 table 0 (map low v), length-map v low) in
    let is = get_or-map low v i 0 0 within in
    grind (arith, get_or-swz_l_below, length-map, and_le_r, get_or-map))
