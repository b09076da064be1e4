use Rattle.std.proofs.Common.{inr}
use Rattle.cellset.proofs.Members.{has_empty}
use Rattle.cellset.proofs.Truth.{either}
use Rattle.maker.proofs.zones.hub.flood.Goals as goal

pub returns-clause-exact : goal.returns-clause-exact
returns-clause-exact g c = (
  c.insert.new.self.members,
  (λ q. (
    (λ h. either ((c.insert.ensures.members q).0 h) (λ old. absurd (has_empty q (rw c.clear.ensures.members at old))) (λ e. e)),
    (λ e. (c.insert.ensures.members q).1 (inr e)),
  )),
  c.grow.ensures.exact,
)
