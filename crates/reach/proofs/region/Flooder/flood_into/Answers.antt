use Rattle.reach.proofs.Instances.{barred_region}
use Rattle.reach.proofs.Sets.{stored_is}
use Rattle.reach.proofs.region.Flooder.flood_into.Goals as goal

pub returns-clause-exact : goal.returns-clause-exact
returns-clause-exact g c =
    let members = g.S.CellSet.members in
    let bars = rw (c.load.ensures.members, c.union_with.ensures.members, c.copy_from.ensures.members) at c.find_region.ensures.exact in
    let region = barred_region _ (members c.args.walls.now) (members c.args.barrier.now) (members c.args.seeds.now) c.find_region.new.seeds.members
    (rw (c.load-2.ensures.members, c.load-2.ensures.extent, c.self.invariant, c.self.view_is) at bars) in
    λ q.
    let stored = stored_is _ c.find_region.new.seeds.members _ c.clear.ensures.members c.store.ensures.members q in
    (λ h. (region q).0 (stored.0 h), λ j. stored.1 ((region q).1 j))
