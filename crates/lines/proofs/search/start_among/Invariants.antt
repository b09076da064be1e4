use Rattle.std.proofs.Common.{◌+◌, ◌-◌}
use Rattle.lines.proofs.Starts.{IsAmong}
use Rattle.lines.proofs.search.start_among.Given as goal

abbrev pub invariant-loop-feeds : goal.invariant-loop-feeds
invariant-loop-feeds g l = IsAmong (g.C.Class.holds l.class) l.text (l.from + 32) l.at l.before l.feeds

abbrev pub decreases-loop-feeds : goal.decreases-loop-feeds
decreases-loop-feeds g l = l.from + 32 - l.at
