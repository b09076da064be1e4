use Rattle.std.proofs.Common.{◌*◌}
use Rattle.play.specs.Mailbox.{IsDrawnBelow}
use Rattle.play.proofs.mailbox.draw_board.Given as goal

abbrev pub invariant-loop-row : goal.invariant-loop-row
invariant-loop-row g l = IsDrawnBelow l.board (256 * l.row) l.mailbox
