use Rattle.std.proofs.Common.{◌≡◌, ◌+◌, ◌*◌, ◌%◌, get_or, refl, arith}
use Rattle.reach.proofs.Moved.{one_word, word_from}
use Rattle.reach.proofs.columns.columns_from.Goals as goal

pub returns : goal.returns
returns g c = λ k.
    let row = c.args.row.now in
    let i = c.word_of-i.result in
    let s = c.args.column % 64 in
    let place : 64 * i + s ≡ c.args.column = omega arith in
    rw place at (one_word _ k _ (word_from row i s (get_or row i 0) c.word_after.result (omega arith) refl (omega arith) c.word_after.ensures k))
