use Rattle.std.proofs.Common.{ℕ, ◌+◌, sym, subst, arith}
use Rattle.std.proofs.Math.ListN.{set}
use Rattle.reach.proofs.Carries.{IsUpTo, upward_more, upward_end}
use Rattle.reach.proofs.fills.fill_up.Goals as goal

pub loop-i-preserved : goal.loop-i-preserved
loop-i-preserved g c =
    let got = c.word_up-got.result.0 in
    subst (λ (carry : ℕ). IsUpTo c.args.free.now c.args.row.now (set c.loop-i.row c.loop-i.i got) (c.loop-i.i + 1) carry) (sym c.word_up-got.ensures.over)
    (upward_more c.args.free.now c.args.row.now c.loop-i.row c.loop-i.i c.loop-i.carry got (omega arith) (omega arith)
    (omega arith) c.word_up-got.ensures.bits c.loop-i.invariant)

pub returns-clause-filled : goal.returns-clause-filled
returns-clause-filled g c = upward_end c.args.free.now c.args.row.now c.loop-i.row c.loop-i.i c.loop-i.carry (omega arith) (omega arith) c.loop-i.invariant
