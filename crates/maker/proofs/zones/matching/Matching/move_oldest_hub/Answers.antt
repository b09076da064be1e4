use Rattle.std.proofs.Common.{arith}
use Rattle.maker.proofs.zones.matching.Matching.move_oldest_hub.Goals as goal

pub overflow_add-self : goal.overflow_add-self
overflow_add-self g c =
    let below = c.requires.matching.oldest in
    omega arith
