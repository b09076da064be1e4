use Rattle.std.proofs.Common.{◌≡◌, ◌+◌, ◌-◌, arith}
use Rattle.reach.proofs.Carries.{downward_more}
use Rattle.reach.proofs.fills.fill_down.Goals as goal

pub loop-i-preserved : goal.loop-i-preserved
loop-i-preserved g c =
    let before : c.loop-i.i ≡ c.loop-i.i - 1 + 1 = omega arith in
    downward_more c.args.free.now c.args.row.now c.loop-i.row (c.loop-i.i - 1) c.loop-i.carry c.word_down-got.result (omega arith)
    (omega arith) c.word_down-got.ensures (rw before at c.loop-i.invariant)

pub returns-clause-filled : goal.returns-clause-filled
returns-clause-filled g c = λ k. c.loop-i.invariant.done k (omega arith)
