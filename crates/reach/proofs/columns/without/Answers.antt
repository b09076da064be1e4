use Rattle.std.proofs.Common.{arith}
use Rattle.reach.specs.Bits.{HasBit}
use Rattle.reach.proofs.Loads.{loaded_more}
use Rattle.reach.proofs.Lines.{word_without}
use Rattle.reach.proofs.columns.without.Goals as goal

pub loop-i-preserved : goal.loop-i-preserved
loop-i-preserved g c =
    let row = c.args.row.now in
    let other = c.args.other.now in
    let i = c.loop-i.i in
    loaded_more (λ k. HasBit row k × (HasBit other k → ⊥)) g.row.N i c.loop-i.left _ (omega arith) c.loop-i.invariant
    (word_without row other i (omega arith) (omega arith))
