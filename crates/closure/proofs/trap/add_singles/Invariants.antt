use Rattle.std.{proofs.Common.ℕ, proofs.Common.◌≡◌, proofs.Common.◌<◌, specs.Prelude.IsTrue}
use Rattle.closure.specs.{Arena.list_in, Arena.pattern_at, Trap.AreSinglesIn, Trap.IsTrapped}
use Rattle.closure.proofs.trap.add_singles.Given as goal

abbrev pub invariant-loop-line : goal.invariant-loop-line
invariant-loop-line l = record {
  extent : l.cells.extent ≡ l.fn.cells.extent;
  singles : AreSinglesIn (list_in l.arena) l.cells.members;
  all : IsTrue l.all_single → (j : ℕ) → j < l.line → IsTrapped l.cells.members (pattern_at (list_in l.arena) j);
}
