use Rattle.std.proofs.Common.{◌≡◌, ◌*◌, ℕ, List, ◌++◌, length}
use Rattle.closure.specs.Kept.{AreRowsIn}
use Rattle.closure.proofs.kept.add_rows.Given as goal

abbrev pub invariant-loop-number : goal.invariant-loop-number
invariant-loop-number l =
    (more : List ℕ) × (l.words.items ≡ l.fn.words.items ++ more) × (length more ≡ l.number * l.parts) × AreRowsIn l.cells.members l.first l.number l.parts more
