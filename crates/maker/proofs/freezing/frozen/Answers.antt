use Rattle.std.proofs.lemmas.Result.{IfOk-weaker}
use Rattle.maker.proofs.freezing.frozen.Goals as goal

pub returns-clause-exact : goal.returns-clause-exact
returns-clause-exact g c = IfOk-weaker c.frozen_among.result _ _
    (λ s h. rw c.load.ensures.members at h) c.frozen_among.ensures.exact
