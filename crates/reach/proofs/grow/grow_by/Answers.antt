use Rattle.std.proofs.Common.{◌∙◌}
use Rattle.reach.proofs.Many.{taken_cases}
use Rattle.reach.proofs.Chains.{growing_start, growing_more, growing_end}
use Rattle.reach.proofs.grow.grow_by.Goals as goal

pub loop-row-init : goal.loop-row-init
loop-row-init g c = record { growing = growing_start _ _ _ c.requires.waiting; within = c.requires.within; on = λ _ _ seeds. seeds; rows = c.requires.rows }

pub loop-row-preserved : goal.loop-row-preserved
loop-row-preserved g c = record {
  growing = growing_more _ _ _ _ _ _ _ _ c.loop-row.invariant.growing (taken_cases _ _ _ c.in-Some.ensures) c.look_at_row.ensures.looked;
  within = c.look_at_row.ensures.within;
  on = λ shape free seeds. c.look_at_row.ensures.on shape free (c.loop-row.invariant.on shape free seeds);
  rows = c.look_at_row.ensures.rows ∙ c.loop-row.invariant.rows;
}

pub returns-clause-exact : goal.returns-clause-exact
returns-clause-exact g c = growing_end _ _ _ _ c.in_default.ensures.0 c.loop-row.invariant.growing
