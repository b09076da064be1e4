use Rattle.std.proofs.Common.{◌+◌, get_or, refl, arith}
use Rattle.reach.specs.Bits.{HasBit}
use Rattle.reach.proofs.Loads.{loaded_more}
use Rattle.reach.proofs.Moved.{earlier_word}
use Rattle.reach.proofs.columns.earlier.Goals as goal

pub loop-i-preserved : goal.loop-i-preserved
loop-i-preserved g c =
    let of = c.args.of.now in
    let i = c.loop-i.i in
    loaded_more (λ k. HasBit of (k + 1)) g.row.N i c.loop-i.row _ (omega arith) c.loop-i.invariant
    (earlier_word of i (get_or of i 0) c.word_after.result refl (omega arith) c.word_after.ensures)
