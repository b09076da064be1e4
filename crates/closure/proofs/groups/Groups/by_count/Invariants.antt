use Rattle.std.proofs.Common.{◌≡◌, ℕ, ◌<◌, ◌≤◌, length, slice_index, vec_capacity}
use Rattle.closure.proofs.groups.Groups.by_count.Given as goal

abbrev pub invariant-loop-group : goal.invariant-loop-group
invariant-loop-group l = record {
  long : length l.counts.items ≡ l.group;
  roomy : length l.self.spans.items ≤ vec_capacity l.counts;
  below : (j : ℕ) → j < l.group → slice_index l.counts.items j ≤ l.most;
}
