use Rattle.std.proofs.Common.{◌≤◌, arith}
use Rattle.std.specs.FinSet as set
use Rattle.maker.proofs.LeastZones.{none_refutes_served}
use Rattle.maker.proofs.zones.hub.Hub.serves_all.Goals as goal

pub returns : goal.returns
returns g c = λ served.
    let members = g.S.CellSet.members in
    let enough : set.len (members c.boxes.result.now) ≤ set.len (members c.goals.result.now) = omega arith in
    none_refutes_served c.args.board.now _ _ c.requires.linked
    (rw c.boxes-2.ensures.members at (c.have_all-2.ensures served)) (rw c.goals-2.ensures.members at (c.have_all.ensures c.if-not-have_all.false))
    (rw (c.boxes.ensures.members, c.goals.ensures.members) at enough)
