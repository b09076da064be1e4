use Rattle.std.proofs.Common.{◌∙◌}
use Rattle.cellset.proofs.Members.{same_members}
use Rattle.reach.proofs.Sets.{stored_is}
use Rattle.reach.proofs.rows.Rows.to_set.Goals as goal

pub returns : goal.returns
returns g c =
    let cells = c.args.self.now.members in
    let stored = stored_is _ cells _ c.in_ok-cells.ensures.empty c.store.ensures.members in
    (c.store.ensures.extent ∙ c.in_ok-cells.ensures.extent ∙ c.shape.ensures, same_members _ cells (λ q. (stored q).0) (λ q. (stored q).1))
