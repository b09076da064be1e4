use Rattle.std.proofs.Common.{◌≡◌, ℕ, ◌+◌, ◌<◌, ◌≤◌, length, slice_index}
use Rattle.board.proofs.row.block_at.Given as goal

abbrev pub invariant-loop-i : goal.invariant-loop-i
invariant-loop-i g l = record {
  long : length l.block ≡ g.row.N;
  filled : (k : ℕ) → l.at + k < l.i → slice_index l.block k ≡ slice_index l.text (l.at + k);
  left : (k : ℕ) → l.i ≤ l.at + k → k < g.row.N → slice_index l.block k ≡ 10;
}
