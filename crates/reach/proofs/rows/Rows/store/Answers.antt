use Rattle.std.proofs.Common.{arith}
use Rattle.cellset.proofs.Truth.{either}
use Rattle.reach.proofs.Sets.{has_is, union_is}
use Rattle.reach.proofs.rows.Rows.store.Goals as goal

pub returns-in-Narrow-clause-members : goal.returns-in-Narrow-clause-members
returns-in-Narrow-clause-members g c = rw (← c.self.view_is) (union_is _ _ _ (λ q.
    let is = has_is _ _ c.self.invariant.0.on q in
    let told = c.store.ensures.members q in
    grind (arith, either)))

pub returns-in-Wide-clause-members : goal.returns-in-Wide-clause-members
returns-in-Wide-clause-members g c = rw (← c.self.view_is) (union_is _ _ _ (λ q.
    let is = has_is _ _ c.self.invariant.0.on q in
    let told = c.store-in-Wide.ensures.members q in
    grind (arith, either)))
