use Rattle.std.proofs.Common.{◌≡◌, ℕ, ◌+◌, ◌%◌, ◌/◌, ◌^◌, ◌<◌, sym, subst, ◌∙◌, ap, arith}
use Rattle.std.specs.Prelude.{◌↔◌, bit_and, bit_or}
use Rattle.std.specs.Int.{bit_not, w64}
use Rattle.std.proofs.lemmas.Nat.{and_le_r}
use Rattle.reach.specs.Bits.{Bit, FromBelow}
use Rattle.reach.proofs.Sums.{filled_by_sum, carry_by_sum, over_by_either}
use Rattle.reach.proofs.fills.word_up.Goals as goal

pub returns-clause-bits : goal.returns-clause-bits
returns-clause-bits c = λ k.
    let first = bit_and c.args.seeds c.args.free in
    let sum_is : c.overflowing_add-sum-2.result.0 ≡ (c.args.free + first + c.args.carry) % 2 ^ 64 =
    omega arith in
    subst (λ (sum : ℕ). Bit (bit_or first (bit_and c.args.free (bit_not w64 sum))) k ↔ FromBelow (Bit c.args.free) (Bit (bit_or c.args.seeds c.args.carry)) k)
    (sym sum_is) (filled_by_sum c.args.free c.args.seeds c.args.carry (omega arith) (omega arith) k)

pub returns-clause-over : goal.returns-clause-over
returns-clause-over c =
    let first = bit_and c.args.seeds c.args.free in
    let small : first < 2 ^ 64 = omega (arith, and_le_r c.args.seeds c.args.free) in
    let sum_is : c.overflowing_add-sum-2.result.0 ≡ (c.args.free + first + c.args.carry) % 2 ^ 64 =
    omega arith in
    let past = rw c.overflowing_add-sum.ensures.value at c.overflowing_add-sum-2.ensures.overflow in
    c.from.ensures ∙ over_by_either c.overflowing_add-sum.result.1 c.overflowing_add-sum-2.result.1 c.args.free first c.args.carry
    (omega arith) small c.requires c.overflowing_add-sum.ensures.overflow past
    ∙ sym (carry_by_sum c.args.free c.args.seeds c.args.carry (omega arith) c.requires)
    ∙ ap (λ sum. bit_or first (bit_and c.args.free (bit_not w64 sum)) / 2 ^ 63) (sym sum_is)
