use Rattle.std.specs.Prelude.{◌↔◌}
use Rattle.std.specs.FinSet as set
use Rattle.std.specs.FinSet.{contains-empty}
use Rattle.cellset.specs.Cell.{cell_cmp}
use Rattle.cellset.specs.CellSet.{Has}
use Rattle.cellset.specs.declared.cell.Cell.{Cell}
use Rattle.cellset.proofs.Members.{lacks_where, not_both}
use Rattle.reach.specs.Region.{IsFree}
use Rattle.reach.proofs.Instances.{joined_is, walked_more}
use Rattle.reach.proofs.region.find_region.Goals as goal

pub returns-clause-exact : goal.returns-clause-exact
returns-clause-exact c =
    let shape = c.args.seeds.now.extent in
    let walls = c.args.barred.now.members in
    let seeds = c.args.seeds.now.members in
    let Free = IsFree shape walls set.empty in
    let clear = c.complement.new.self.members in
    let start = c.subtract.new.self.members in
    let free : (p : Cell) → Has clear p ↔ Free p = λ p. (
      (λ h. let (on, gone) = (c.complement.ensures.members p).0 h in
          record { on = rw c.requires.extent on; no_wall = lacks_where walls p gone; no_bar = contains-empty cell_cmp p }),
      (λ f. (c.complement.ensures.members p).1 (rw c.requires.extent at f.on, λ wall. not_both walls p wall f.no_wall)),
    ) in
    let seeded : (p : Cell) → Has start p ↔ (Has seeds p × Free p) = λ p. (
      (λ h. let (has, gone) = (c.subtract.ensures.members p).0 h in
          (has, record { on = c.requires.on p has; no_wall = lacks_where walls p gone; no_bar = contains-empty cell_cmp p })),
      (λ (has, f). (c.subtract.ensures.members p).1 (has, λ wall. not_both walls p wall f.no_wall)),
    ) in
    λ q.
    let joined = joined_is Free (Has seeds) q in (
      (λ h. joined.1 (walked_more (Has clear) Free (Has start) (λ p. Has seeds p × Free p) (λ p. (free p).0) (λ p. (seeded p).0) q
          ((c.grow.ensures.exact q).0 h))),
      (λ j. (c.grow.ensures.exact q).1 (walked_more Free (Has clear) (λ p. Has seeds p × Free p) (Has start) (λ p. (free p).1) (λ p. (seeded p).1) q
          (joined.0 j))),
    )
