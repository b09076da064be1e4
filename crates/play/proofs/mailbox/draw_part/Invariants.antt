use Rattle.std.proofs.Common.{◌≡◌, ◌+◌, ◌-◌, ◌*◌, ◌/◌, ◌%◌, ◌^◌, ◌≤◌}
use Rattle.play.specs.Mailbox.{IsDrawnBelow}
use Rattle.play.proofs.mailbox.draw_part.Given as goal

abbrev pub invariant-lanes : goal.invariant-lanes
invariant-lanes g l = record {
  drawn : IsDrawnBelow l.board (256 * l.row + l.column) l.mailbox;
  whole : l.column % 16 ≡ 0;
  from : 64 * l.part ≤ l.column;
  to : l.column ≤ 64 * l.part + 64;
  floor : l.floor_left ≡ l.floor / 2 ^ (l.column - 64 * l.part);
}

abbrev pub decreases-lanes : goal.decreases-lanes
decreases-lanes g l = 320 - l.column
