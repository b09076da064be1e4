use Rattle.std.proofs.Common.{◌≤◌, length}
use Rattle.closure.specs.Checking.{IsChecker}
use Rattle.closure.proofs.checking.Checker.note_settled.Given as goal

abbrev pub invariant-loop-count : goal.invariant-loop-count
invariant-loop-count g l = record { checker : IsChecker l.tables l.self }

abbrev pub invariant-loop-link : goal.invariant-loop-link
invariant-loop-link g l = record {
  checker : IsChecker l.tables l.self;
  link : l.link ≤ length l.tables.groups.spans.items;
}

abbrev pub decreases-loop-link : goal.decreases-loop-link
decreases-loop-link g l = l.link
