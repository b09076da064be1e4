use Rattle.std.specs.Prelude.{◌≡◌, ◌++◌}
use Rattle.std.specs.FinSet.{len, difference, from_list}
use Rattle.cellset.specs.CellSet.{Cells}
use Rattle.cellset.specs.Members.{AreMembersOf}
use Rattle.play.specs.Mailbox.{IsMailboxOf}
use Rattle.play.proofs.mailbox.boxes_off_goals.Given as goal

abbrev pub invariant-loop-goal : goal.invariant-loop-goal
invariant-loop-goal g l = record {
  can_next : (goal.iterator-loop-goal g).can_next l.goal-iterator;
  is_finite : (goal.iterator-loop-goal g).is_finite l.goal-iterator;
  all : AreMembersOf l.board.shape l.board.goals (l.yielded ++ l.goal-iterator);
  counted : (boxes : Cells) → IsMailboxOf l.board boxes l.mailbox → len boxes ≡ len l.board.boxes → l.count ≡ len (difference boxes (from_list l.yielded));
}
