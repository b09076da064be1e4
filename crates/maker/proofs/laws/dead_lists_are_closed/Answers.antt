use Rattle.maker.proofs.Accepting.{dead_lists_closed}
use Rattle.maker.proofs.laws.dead_lists_are_closed.Goals as goal

pub returns : goal.returns
returns c = dead_lists_closed
