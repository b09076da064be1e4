use Rattle.std.proofs.Common.{◌≤◌}
use Rattle.reach.proofs.Loads.{IsLoaded}
use Rattle.reach.proofs.columns.columns.Given as goal

abbrev pub invariant-loop-part : goal.invariant-loop-part
invariant-loop-part g l = IsLoaded (λ k. k ≤ l.width) g.row.N l.part l.row
