use Rattle.std.proofs.Common.{◌+◌, ◌*◌}
use Rattle.play.specs.Mailbox.{IsDrawnBelow}
use Rattle.play.proofs.mailbox.draw_row.Given as goal

abbrev pub invariant-loop-part : goal.invariant-loop-part
invariant-loop-part g l = IsDrawnBelow l.board (256 * l.row + 64 * l.part) l.mailbox
