use Rattle.board.proofs.Blocks.{one_of_three}
use Rattle.board.proofs.characters.goals_in.Goals as goal

pub returns : goal.returns
returns g c k h = one_of_three _ _ _ _ _ _ _ k (c.equal_to.ensures.inside k h) (c.equal_to-2.ensures.inside k h) (c.equal_to-3.ensures.inside k h)
