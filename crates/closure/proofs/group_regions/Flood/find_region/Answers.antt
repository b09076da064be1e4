-- There are three cases. If a line says `*`, the region is all that is free. If the free cells are in one component and one of them is a seed,
-- walks reach all that is free from it, so the region is that too. Otherwise the flood begins with the free seeds (`Grouping.antt`).
use Rattle.closure.proofs.Grouping.{flooded_seeds, flooded_star, flooded_whole}
use Rattle.closure.proofs.group_regions.Flood.find_region.Goals as goal

pub returns-then-not-seed-clause-exact : goal.returns-then-not-seed-clause-exact
returns-then-not-seed-clause-exact c = flooded_star c.args.groups.now c.args.group c.args.self.now.free.members c.if-not-seed.ensures.found

pub returns-then-not-is_empty-clause-exact : goal.returns-then-not-is_empty-clause-exact
returns-then-not-is_empty-clause-exact c =
    let some = c.if-not-is_empty.ensures in
    flooded_whole c.args.groups.now c.args.group c.args.self.now.free.members (c.requires.whole c.if-self.true) some.0 (c.seed.ensures.only some.0 some.1)

pub returns-clause-exact : goal.returns-clause-exact
returns-clause-exact c =
    flooded_seeds c.args.groups.now c.args.group c.args.self.now.free.members c.grow.new.self.members c.seed.new.region.members
    c.seed.ensures.only c.if-not-seed.ensures.found c.grow.ensures.exact
