use Rattle.std.proofs.Common.{get_or, refl, arith}
use Rattle.reach.proofs.Many.{taken}
use Rattle.reach.proofs.worklist.Worklist.pop.Goals as goal

pub returns-then-word-ne0 : goal.returns-then-word-ne0
returns-then-word-ne0 g c =
    let words = c.loop-i.self.words in
    let i = c.loop-i.i in
    let word = get_or words i 0 in
    let same = c.loop-i.invariant.same in
    rw (← same) (taken words i word (omega arith) refl (omega arith) (omega arith))
