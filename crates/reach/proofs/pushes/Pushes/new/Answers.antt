use Rattle.std.proofs.Common.{sym, ◌∙◌}
use Rattle.reach.proofs.PushLists.{all_left, tries_on}
use Rattle.reach.proofs.pushes.Pushes.new.Goals as goal

pub invariant_of-result : goal.invariant_of-result
invariant_of-result g c = record { same = c.requires.boxes ∙ sym c.requires.walls; on = rw (c.requires.walls, ← c.requires.region) (tries_on c.new.ensures) }

pub returns : goal.returns
returns g c = rw (c.requires.walls, ← c.requires.region) (all_left c.new.ensures)
