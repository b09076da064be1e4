use Rattle.std.proofs.Common.{◌≡◌, length}
use Rattle.reach.specs.PushesLeft.{AreTried, pushes_left, tries_left}
use Rattle.reach.proofs.pushes.PushesIterator.next.Given as goal

abbrev pub invariant-loop-player : goal.invariant-loop-player
invariant-loop-player g l =
    let at = l.self-inside in
    let shape = g.S.CellSet.extent at.walls.now in
    record {
      tried : AreTried shape (g.S.CellSet.extent at.boxes.now) at.ahead at.players;
      left : pushes_left shape (g.S.CellSet.members at.walls.now) (g.S.CellSet.members at.boxes.now) at.ahead at.players ≡ l.fn.self;
    }

abbrev pub decreases-loop-player : goal.decreases-loop-player
decreases-loop-player g l = length (tries_left l.self-inside.ahead l.self-inside.players)
