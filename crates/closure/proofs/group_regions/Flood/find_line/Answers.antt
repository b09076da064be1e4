-- With `*` the region is all that is free (`room_outside`). Otherwise it is what the flood reaches from the seeds (`line_region`).
use Rattle.std.specs.Prelude.{◌↔◌}
use Rattle.cellset.{specs.CellSet.Has, proofs.Members.has_empty, proofs.Truth.either}
use Rattle.certificates.specs.CellLists.{cells_in}
use Rattle.certificates.proofs.RegionCells.{room_outside}
use Rattle.closure.proofs.{ListedRegions.line_region, Turns.through}
use Rattle.std.proofs.Common.{inr}
use Rattle.closure.proofs.group_regions.Flood.find_line.Goals as goal

pub returns-in-None-clause-exact : goal.returns-in-None-clause-exact
returns-in-None-clause-exact c = λ level formed lawful is q.
    rw c.in-None.is (through (is.members q) (room_outside level formed (cells_in c.args.pattern.boxes.now) q))

pub returns-in-Some-clause-exact : goal.returns-in-Some-clause-exact
returns-in-Some-clause-exact c = λ level formed lawful is q.
    let free = c.args.self.now.free in
    let start = c.add_seeds.new.region.members in
    let begins : (s : _) → Has start s ↔ (Has (cells_in c.in-Some.seeds.now) s × Has free.members s) = λ s. (
      λ h. either ((c.add_seeds.ensures.cells s).0 h) (λ old. absurd (has_empty s (rw c.clear.ensures.members at old))) (λ both. both),
      λ both. (c.add_seeds.ensures.cells s).1 (inr both),
    ) in
    rw c.in-Some.is (line_region level formed (cells_in c.args.pattern.boxes.now) (cells_in c.in-Some.seeds.now)
    (λ s h. lawful.seed s (rw c.in-Some.is h)) free is start c.grow.new.self.members begins c.grow.ensures.exact q)
