use Rattle.std.proofs.Common.{◌∙◌}
use Rattle.cellset.proofs.Members.{has_empty}
use Rattle.maker.proofs.zones.hub.Hub.at_first_box.Goals as goal

pub returns-in-None : goal.returns-in-None
returns-in-None g c = record {
  sources_on = c.clear.ensures.extent ∙ c.requires.0;
  targets_on = c.requires.1;
  linked = λ b q h _. absurd (has_empty b (rw c.clear.ensures.members at h));
  from_on = tt;
}
