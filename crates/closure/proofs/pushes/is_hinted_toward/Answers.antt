-- A push to the trap is covered (`toward_trap`). Any other one leaves no box on the trap, so hints may be asked of its result (`off_after`), and if
-- one of its pushes in the direction is covered, so are all of them (`covered_one`).
use Rattle.std.proofs.{Common.refl, lemmas.Bool.false≢true}
use Rattle.cellset.{proofs.Members.lacks_where}
use Rattle.closure.{specs.GroupPushes.pushed_cell, specs.Groups.list_of, specs.Groups.position_at, proofs.Traps.off_after}
use Rattle.closure.proofs.GroupPushes.{covered_one, leaves_room, toward_trap}
use Rattle.closure.proofs.pushes.is_hinted_toward.Goals as goal

pub returns-in_default : goal.returns-in_default
returns-in_default g c = λ _ push out from toward. absurd (c.in_default.ensures push out from toward)

pub is_hinted-requires-clause-room : goal.is_hinted-requires-clause-room
is_hinted-requires-clause-room g c = leaves_room c.args.tables.now c.requires.tables c.args.pushed.now.group c.requires.pushed.group c.in-Some.push c.in-Some.ensures.out

pub is_hinted-requires-clause-off : goal.is_hinted-requires-clause-off
is_hinted-requires-clause-off g c =
    let trap = c.args.tables.now.trap.members in
    off_after trap c.args.pushed.now.boxes.now c.in-Some.push.from c.in-Some.push.to c.requires.off
    (lacks_where trap c.in-Some.push.to (λ has. false≢true (c.if-is_on_trap.ensures.1 has)))

pub returns-then-is_on_trap : goal.returns-then-is_on_trap
returns-then-is_on_trap g c = λ _.
    toward_trap c.args.tables.now c.requires.tables c.args.pushed.now.group c.requires.pushed.group (pushed_cell c.args.pushed.now) c.args.dir c.in-Some.push
    c.in-Some.ensures (c.if-is_on_trap.ensures.0 refl)

pub returns-else-is_on_trap : goal.returns-else-is_on_trap
returns-else-is_on_trap g c = λ found.
    let level = c.args.tables.now.board.now in
    let groups = c.args.tables.now.groups in
    covered_one level (position_at level groups c.args.pushed.now.group) (pushed_cell c.args.pushed.now) c.args.dir (list_of groups) c.in-Some.push c.in-Some.ensures
    (rw c.requires.pushed.boxes at (c.is_hinted.ensures found))
