use Rattle.std.proofs.Common.{◌+◌, ◌≤◌, take, length}
use Rattle.play.specs.Spelling.{letters, joined}
use Rattle.play.specs.Progress.{Continues}
use Rattle.play.proofs.solution.play_lines.Given as goal

abbrev pub invariant-loop-line : goal.invariant-loop-line
invariant-loop-line l = record {
  moves : l.run.tally.moves ≤ l.fn.run.tally.moves + length (joined (take l.line-index l.lines));
  continues : Continues l.fn.mailbox l.fn.run (letters (joined (take l.line-index l.lines))) l.mailbox l.run;
}
