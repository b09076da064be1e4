use Rattle.reach.specs.Bits.{HasBit}
use Rattle.reach.proofs.Loads.{IsLoaded}
use Rattle.reach.proofs.columns.without.Given as goal

abbrev pub invariant-loop-i : goal.invariant-loop-i
invariant-loop-i g l = IsLoaded (λ k. HasBit l.row k × (HasBit l.other k → ⊥)) g.row.N l.i l.left
