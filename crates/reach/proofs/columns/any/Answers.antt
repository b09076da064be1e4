use Rattle.std.proofs.Common.{◌+◌, ◌*◌, get_or, refl, arith}
use Rattle.std.specs.Int.{trailing_zeros, w64}
use Rattle.reach.proofs.Many.{taken}
use Rattle.reach.proofs.columns.any.Goals as goal

pub returns-then-word-ne0-clause-some : goal.returns-then-word-ne0-clause-some
returns-then-word-ne0-clause-some g c = λ _.
    let row = c.args.row.now in
    let i = c.loop-word.word-index in
    let word = get_or row i 0 in
    (64 * i + trailing_zeros w64 word, (taken row i word (omega arith) refl (omega arith) (omega arith)).was)
