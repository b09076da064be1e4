use Rattle.std.proofs.Common.{◌-◌, length}
use Rattle.board.proofs.Fronts.{IsTested}
use Rattle.board.proofs.collection.front.Given as goal

abbrev pub invariant-blocks-2 : goal.invariant-blocks-2
invariant-blocks-2 l = IsTested l.text l.len l.has_wall

abbrev pub decreases-blocks-2 : goal.decreases-blocks-2
decreases-blocks-2 l = length l.text - l.len
