use Rattle.board.proofs.Blocks.{one_of_two}
use Rattle.board.proofs.characters.boxes_in.Goals as goal

pub returns : goal.returns
returns g c k h = one_of_two _ _ _ _ _ k (c.equal_to.ensures.inside k h) (c.equal_to-2.ensures.inside k h)
