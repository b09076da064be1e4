use Rattle.closure.proofs.Covered.{closed_unsolvable}
use Rattle.closure.proofs.laws.closed_means_unsolvable.Goals as goal

pub returns : goal.returns
returns c = closed_unsolvable
