use Rattle.std.proofs.Common.{refl}
use Rattle.cellset.specs.Cell.{IsNextCell}
use Rattle.cellset.proofs.ReadingOrder.{left_falls}
use Rattle.maker.proofs.zones.hub.next_free.Goals as goal

pub loop-from-smaller : goal.loop-from-smaller
loop-from-smaller g c =
    let shape = c.args.board.now.shape in
    let found = c.in_ok-goal.goal in
    let after : IsNextCell shape found c.next-from.result = rw c.shape-shape.ensures.value at c.next-from.ensures in
    rw c.in-Some.is (left_falls shape (g.S.CellSet.members c.goals.result.now) c.in-Some.at found c.next-from.result
    (rw c.in-Some.is at c.loop-from.invariant.on) (rw c.goals.ensures.extent at c.in_ok-goal.ensures.on) c.in_ok-goal.ensures.first after)

pub returns-then-is_free_in : goal.returns-then-is_free_in
returns-then-is_free_in g c =
    let level = c.args.board.now in
    let goal = c.in_ok-goal.goal in
    let (here, unmatched) = c.if-is_free_in.ensures refl in
    let entry = rw c.shape-shape.ensures.value at unmatched in
    let is_goal = rw c.goals.ensures.members at c.in_ok-goal.ensures.first.0 in
    (here, record { on = rw c.goals.ensures.extent at c.in_ok-goal.ensures.on; goal = is_goal; unmatched = entry })
