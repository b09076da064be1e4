use Rattle.std.proofs.Common.{◌≡◌, ℕ, ◌<◌, get_or}
use Rattle.reach.proofs.worklist.Worklist.pop.Given as goal

abbrev pub invariant-loop-i : goal.invariant-loop-i
invariant-loop-i g l = record {
  same : l.self.words ≡ l.fn.self.words;
  none : (k : ℕ) → k < l.i → get_or l.self.words k 0 ≡ 0;
}
