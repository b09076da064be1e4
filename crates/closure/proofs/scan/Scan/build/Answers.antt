use Rattle.std.proofs.Common.{arith}
use Rattle.closure.{specs.Arena.list_in, proofs.Arenas.list_long}
use Rattle.closure.proofs.Entries.{entries_cover}
use Rattle.closure.proofs.scan.Scan.build.Goals as goal

pub with_lines-requires : goal.with_lines-requires
with_lines-requires g c = λ pattern listed q named. rw c.shape.ensures.value ((c.requires pattern listed).board q named)

pub enter_each-requires : goal.enter_each-requires
enter_each-requires g c = rw c.in_ok-arena.ensures c.requires

pub invariant_of-result : goal.invariant_of-result
invariant_of-result g c = grind arith

pub returns-clause-exact : goal.returns-clause-exact
returns-clause-exact g c = λ s.
    let arena = c.in_ok-arena.arena in
    rw (c.copy_from.ensures.members, c.room.ensures.members)
    (rw c.in_ok-arena.ensures at (entries_cover c.args.board.now s (list_in arena) c.in_ok-entries.entries.items
    (rw (list_long arena) c.in_ok-entries.ensures)))
