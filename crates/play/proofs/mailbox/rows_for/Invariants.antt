use Rattle.std.proofs.Common.{◌≡◌, ℕ, ◌-◌, ◌^◌, ◌≤◌}
use Rattle.play.proofs.mailbox.rows_for.Given as goal

abbrev pub invariant-loop-rows : goal.invariant-loop-rows
invariant-loop-rows l = (k : ℕ) × (k ≤ 8) × (l.rows ≡ 2 ^ k)

abbrev pub decreases-loop-rows : goal.decreases-loop-rows
decreases-loop-rows l = 512 - l.rows
