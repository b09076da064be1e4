use Rattle.std.proofs.Common.{◌≡◌, ℕ, ◌<◌, get_or}
use Rattle.reach.proofs.columns.any.Given as goal

abbrev pub invariant-loop-word : goal.invariant-loop-word
invariant-loop-word g l = (i : ℕ) → i < l.word-index → get_or l.row i 0 ≡ 0
