-- No comment begins before `from`.
use Rattle.std.proofs.Common.{◌≤◌, ◌-◌, length}
use Rattle.answers.specs.Pieces.{NoCommentBelow}
use Rattle.answers.proofs.pieces.comment_at.Given as goal

abbrev pub invariant-loop-next : goal.invariant-loop-next
invariant-loop-next l = record {
  within : l.from ≤ length l.lines;
  none : NoCommentBelow l.from l.lines;
}

abbrev pub decreases-loop-next : goal.decreases-loop-next
decreases-loop-next l = length l.lines - l.from
