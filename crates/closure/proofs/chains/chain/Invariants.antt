use Rattle.std.proofs.Common.{◌≡◌, ℕ, ◌<◌, ◌≤◌, length, slice_index, vec_capacity}
use Rattle.closure.specs.Chains.{IsLast}
use Rattle.closure.proofs.chains.chain.Given as goal

abbrev pub invariant-loop-item : goal.invariant-loop-item
invariant-loop-item l = record {
  firsts : length l.first.items ≡ l.count;
  nexts : length l.next.items ≡ l.item;
  roomy : length l.keys ≤ vec_capacity l.next;
  lasts : (key : ℕ) → key < l.count → IsLast l.keys key l.item (slice_index l.first.items key);
  before : (j : ℕ) → j < l.item → IsLast l.keys (slice_index l.keys j) j (slice_index l.next.items j);
}
