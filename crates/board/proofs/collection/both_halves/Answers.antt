use Rattle.std.proofs.Common.{◌≡◌, ◌+◌, ◌-◌, ◌*◌, ◌%◌, ◌^◌, ◌||◌, ◌∙◌, ap, inl, inr, arith}
use Rattle.std.proofs.lemmas.Bool.{cases_lt}
use Rattle.std.proofs.Math.Bool.{or-false}
use Rattle.cellset.specs.Bits.{bit}
use Rattle.cellset.proofs.Bits.{bit-or}
use Rattle.cellset.proofs.Shifts.{bit_past, bit_up, bit_up_below}
use Rattle.board.proofs.collection.both_halves.Goals as goal

pub returns-clause-low : goal.returns-clause-low
returns-clause-low c k small =
    bit-or c.args.low _ k ∙ ap (λ b. bit c.args.low k || b) (bit_up_below c.args.high 16 k (omega arith) small) ∙ or-false (bit c.args.low k)

pub returns-clause-high : goal.returns-clause-high
returns-clause-high c k small =
    let place : 16 + k - 16 ≡ k = omega arith in
    bit-or c.args.low _ (16 + k) ∙ ap (λ b. b || bit (c.args.high * 2 ^ 16 % 2 ^ 64) (16 + k)) (c.requires (16 + k) (omega arith)).0
    ∙ bit_up c.args.high 16 (16 + k) (omega arith) (omega arith) ∙ ap (bit c.args.high) place

pub returns-clause-past : goal.returns-clause-past
returns-clause-past c k past =
    bit-or c.args.low _ k ∙ ap (λ b. b || bit (c.args.high * 2 ^ 16 % 2 ^ 64) k) (c.requires k (omega arith)).0
    ∙ elim (cases_lt k 64) [
      | inl small ↦ bit_up c.args.high 16 k small (omega arith) ∙ (c.requires (k - 16) (omega arith)).1
      | inr more ↦ bit_past (c.args.high * 2 ^ 16 % 2 ^ 64) k (omega arith) more
    ]
