-- Blocks of up to 64 bytes as words of bits. A comparison of each byte with one value gives one bit for each byte.
use Rattle.std.proofs.Common.{◌≡◌, ℕ, ◌-◌, ◌%◌, ◌^◌, ◌<◌, ◌≤◌, Bool, true, false, cond, eqb, List, length, map, get_or, refl, ap, ◌∙◌, arith, w8}
use Rattle.std.specs.Prelude.{nat_eq, replicate}
use Rattle.std.specs.Int.{bit_at}
use Rattle.std.specs.Simd.Lanes.{mask_l, top, zip2}
use Rattle.std.proofs.lemmas.List.{get_or-map}
use Rattle.std.proofs.lemmas.Simd.{bit_mask_l, bitmask_splat}

one_is : (b : Bool) → nat_eq (cond b 1 0) 1 ≡ b
one_is true = refl
one_is false = refl

pub bit_of_lanes : (ms : List Bool) (k : ℕ) → nat_eq (bit_at (mask_l ms) k) 1 ≡ get_or ms k false
bit_of_lanes ms k = search (bit_mask_l, one_is)

pub compared : (block : List ℕ) (n byte k : ℕ) → length block ≡ n → n ≤ 64 → k < n
    → nat_eq (bit_at (mask_l (map (top 7) (zip2 (λ a b. cond (eqb a b) (2 ^ 8 - 1) 0) block (replicate n byte))) % 2 ^ 64) k) 1 ≡ eqb (get_or block k 0) byte
compared block n byte k long few small =
    let is = λ (x : ℕ). eqb x byte in
    ap (λ n. nat_eq (bit_at n k) 1) (bitmask_splat w8 eqb block n byte long few) ∙ bit_of_lanes (map is block) k ∙ get_or-map is block k 0 false (omega arith)
