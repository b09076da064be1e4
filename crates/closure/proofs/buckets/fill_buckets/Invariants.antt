use Rattle.std.proofs.Common.{◌≡◌, ℕ, ◌<◌, ◌≤◌, length, vec_capacity}
use Rattle.closure.specs.Buckets.{IsInBucket}
use Rattle.closure.proofs.buckets.fill_buckets.Given as goal

abbrev pub invariant-loop-group : goal.invariant-loop-group
invariant-loop-group g l = record {
  sizes : length l.sizes.items ≡ l.cells;
  long : length l.keys.items ≡ l.group;
  roomy : length l.groups.spans.items ≤ vec_capacity l.keys;
  each : (k : ℕ) → k < l.group → IsInBucket l.board l.groups l.keys.items k;
}
