use Rattle.std.proofs.Common.{get_or, refl, arith}
use Rattle.reach.specs.Bits.{HasBit}
use Rattle.reach.proofs.Loads.{loaded_more}
use Rattle.reach.proofs.Lines.{both_word}
use Rattle.reach.proofs.columns.both.Goals as goal

pub loop-i-preserved : goal.loop-i-preserved
loop-i-preserved g c =
    let a = c.args.a.now in
    let b = c.args.b.now in
    let i = c.loop-i.i in
    loaded_more (λ k. HasBit a k × HasBit b k) g.row.N i c.loop-i.row _ (omega arith) c.loop-i.invariant
    (both_word a b i (get_or a i 0) (get_or b i 0) refl refl (omega arith))
