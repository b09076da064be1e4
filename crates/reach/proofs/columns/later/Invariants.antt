use Rattle.std.proofs.Common.{◌-◌, ◌≤◌}
use Rattle.reach.specs.Bits.{HasBit}
use Rattle.reach.proofs.Loads.{IsLoaded}
use Rattle.reach.proofs.columns.later.Given as goal

abbrev pub invariant-loop-i : goal.invariant-loop-i
invariant-loop-i g l = IsLoaded (λ k. (1 ≤ k) × HasBit l.of (k - 1)) g.row.N l.i l.row
