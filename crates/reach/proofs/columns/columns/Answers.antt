-- Each word gets the columns up to the width, and then column 0 is taken out: it is bit 0 of word 0.
use Rattle.std.proofs.Common.{◌≡◌, ◌≤◌, ◌%◌, ◌∙◌, refl, sym, arith}
use Rattle.std.proofs.lemmas.Bool.{cases_lt, false≢true}
use Rattle.std.proofs.lemmas.Nat.Bits.{bit_at-zero}
use Rattle.cellset.proofs.Truth.{either}
use Rattle.reach.proofs.Loads.{loaded_more}
use Rattle.reach.proofs.Words.{bit_below, bit_not_from}
use Rattle.reach.proofs.columns.columns.Goals as goal

pub loop-part-preserved : goal.loop-part-preserved
loop-part-preserved g c =
    loaded_more (λ k. k ≤ c.args.width) g.row.N c.loop-part.part c.loop-part.row _ (omega arith) c.loop-part.invariant
    (λ k. (
      (λ b. let below = bit_below _ 64 k (omega arith) b in (
        below,
        either (cases_lt k c.saturating_sub.result) (λ within. omega arith)
            (λ past. absurd (false≢true (sym (c.first_bits.ensures.outside k past) ∙ b.is))),
      )),
      (λ (below, on). record { is = c.first_bits.ensures.inside k (omega arith) ∙ (bit_not_from 0 k (omega arith) below (bit_at-zero k)).is }),
    ))

pub returns : goal.returns
returns g c = λ k.
    let row = c.loop-part.invariant.bits k in (
      (λ h. let (old, gone) = (c.remove.ensures k).0 h in
          let (_, on) = row.0 old in (
            either (cases_lt 0 k) (λ some. some)
                (λ none. let zero : k % 64 ≡ 0 = omega arith in absurd (gone (omega arith) (rw zero (record { is = refl })))),
            on,
          )),
      (λ (from, on). (c.remove.ensures k).1 (row.1 (omega arith, on), λ word b. let bit = bit_below 1 1 (k % 64) (omega arith) b in omega arith)),
    )
