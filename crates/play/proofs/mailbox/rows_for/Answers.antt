use Rattle.std.proofs.Common.{◌+◌, ◌*◌, pow-add, sym, ◌∙◌, ap, inl, inr, arith}
use Rattle.std.proofs.lemmas.Bool.{cases_lt}
use Rattle.play.proofs.mailbox.rows_for.Goals as goal

pub loop-rows-preserved : goal.loop-rows-preserved
loop-rows-preserved c =
    let (k, small, is) = c.loop-rows.invariant in
    elim (cases_lt k 8) [
      | inl less ↦ (k + 1, omega arith, ap (λ n. n * 2) is ∙ sym (pow-add 2 k 1))
      | inr most ↦ grind arith
    ]
