use Rattle.std.proofs.Common.{arith}
use Rattle.std.specs.Prelude.{◌⊎◌}
use Rattle.reach.specs.Bits.{HasBit}
use Rattle.reach.proofs.Loads.{loaded_more}
use Rattle.reach.proofs.Lines.{either_word}
use Rattle.reach.proofs.columns.either.Goals as goal

pub loop-i-preserved : goal.loop-i-preserved
loop-i-preserved g c =
    let a = c.args.a.now in
    let b = c.args.b.now in
    let i = c.loop-i.i in
    loaded_more (λ k. HasBit a k ⊎ HasBit b k) g.row.N i c.loop-i.row _ (omega arith) c.loop-i.invariant (either_word a b i (omega arith) (omega arith))
