use Rattle.maker.proofs.Accepting.{frozen_lists_closed}
use Rattle.maker.proofs.laws.frozen_lists_are_closed.Goals as goal

pub returns : goal.returns
returns c = frozen_lists_closed
