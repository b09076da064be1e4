use Rattle.std.specs.Prelude.{◌++◌}
use Rattle.std.specs.FinSet.{from_list}
use Rattle.cellset.specs.Members.{AreMembersOf}
use Rattle.play.specs.Mailbox.{IsMailboxOf}
use Rattle.play.proofs.mailbox.put_boxes.Given as goal

abbrev pub invariant-loop-cell : goal.invariant-loop-cell
invariant-loop-cell g l = record {
  can_next : (goal.iterator-loop-cell g).can_next l.cell-iterator;
  is_finite : (goal.iterator-loop-cell g).is_finite l.cell-iterator;
  all : AreMembersOf l.board.shape l.board.boxes (l.yielded ++ l.cell-iterator);
  shown : IsMailboxOf l.board (from_list l.yielded) l.mailbox;
}
