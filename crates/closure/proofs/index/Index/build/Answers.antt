use Rattle.std.proofs.Common.{◌∙◌}
use Rattle.closure.proofs.Traps.{no_trap}
use Rattle.closure.proofs.index.Index.build.Goals as goal

pub with_lines-requires : goal.with_lines-requires
with_lines-requires g c = λ pattern listed q has. rw c.shape.ensures.value ((c.requires pattern listed).board q has)

pub build-requires-clause-lawful : goal.build-requires-clause-lawful
build-requires-clause-lawful g c = rw c.in_ok-arena.ensures c.requires

pub build-requires-clause-trap : goal.build-requires-clause-trap
build-requires-clause-trap g c = no_trap _ _ _ (c.in_ok-trap.ensures.0 ∙ c.shape-2.ensures.value) c.in_ok-trap.ensures.1

pub returns-clause-exact : goal.returns-clause-exact
returns-clause-exact g c = rw (c.in_ok-tables.ensures.level, c.in_ok-tables.ensures.same, c.in_ok-arena.ensures) (λ s. (λ h. h, λ h. h))
