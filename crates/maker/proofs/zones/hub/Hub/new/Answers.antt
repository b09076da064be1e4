use Rattle.std.proofs.Common.{sym, ◌∙◌}
use Rattle.cellset.proofs.Members.{has_empty}
use Rattle.maker.proofs.zones.hub.Hub.new.Goals as goal

pub returns : goal.returns
returns c = λ level is. record {
  sources_on = c.in_ok-sources.ensures.0 ∙ sym is;
  targets_on = c.in_ok-targets.ensures.0 ∙ sym is;
  linked = λ b q h _. absurd (has_empty b (rw c.in_ok-sources.ensures.1 at h));
  from_on = tt;
}
