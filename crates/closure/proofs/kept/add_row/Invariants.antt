use Rattle.std.proofs.Common.{◌≡◌, ℕ, List, ◌++◌, length}
use Rattle.closure.specs.Kept.{AreWordsIn}
use Rattle.closure.proofs.kept.add_row.Given as goal

abbrev pub invariant-loop-part : goal.invariant-loop-part
invariant-loop-part l =
    (more : List ℕ) × (l.words.items ≡ l.fn.words.items ++ more) × (length more ≡ l.part) × AreWordsIn l.cells.members l.row l.part more
