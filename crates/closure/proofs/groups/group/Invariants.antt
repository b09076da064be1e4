use Rattle.std.proofs.Common.{◌≤◌, length, vec_capacity}
use Rattle.closure.specs.Groups.{AreGroups}
use Rattle.closure.proofs.groups.group.Given as goal

abbrev pub invariant-loop-line : goal.invariant-loop-line
invariant-loop-line l = record {
  grouped : AreGroups l.fn.arena l.of.items l.spans.items l.line-index;
  roomy : length l.fn.arena.lines.items ≤ vec_capacity l.of;
}
