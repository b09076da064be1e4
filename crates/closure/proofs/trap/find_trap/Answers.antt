use Rattle.closure.{specs.Arena.list_in, proofs.Traps.no_trap}
use Rattle.std.proofs.Common.{◌∙◌}
use Rattle.closure.proofs.trap.find_trap.Goals as goal

pub add_singles-all_single-requires-clause-on : goal.add_singles-all_single-requires-clause-on
add_singles-all_single-requires-clause-on g c = λ pattern listed q named. rw c.requires.extent ((c.requires.lawful pattern listed).board q named)

pub returns-then-is_empty-clause-trap : goal.returns-then-is_empty-clause-trap
returns-then-is_empty-clause-trap g c =
    no_trap c.args.board.now (list_in c.args.arena.now) c.add_singles-all_single.new.cells (c.add_singles-all_single.ensures.extent ∙ c.requires.extent)
    c.if-is_empty.ensures

pub returns-then-is_closed-clause-trap : goal.returns-then-is_closed-clause-trap
returns-then-is_closed-clause-trap g c = record {
  extent = c.add_singles-all_single.ensures.extent ∙ c.requires.extent;
  singles = c.add_singles-all_single.ensures.singles;
  closed = rw c.room_rows.ensures.members at (c.in_ok-is_closed.ensures.0 c.if-is_closed.true);
}

pub returns-clause-trap : goal.returns-clause-trap
returns-clause-trap g c =
    no_trap c.args.board.now (list_in c.args.arena.now) c.clear.new.self
    (c.clear.ensures.extent ∙ (c.add_singles-all_single.ensures.extent ∙ c.requires.extent)) c.clear.ensures.members
