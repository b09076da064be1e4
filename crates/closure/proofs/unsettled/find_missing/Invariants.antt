use Rattle.std.proofs.Common.{◌≡◌, ◌⊎◌, ℕ, ◌<◌, MatchOption, length}
use Rattle.cellset.specs.CellSet.{Has, Lacks}
use Rattle.certificates.specs.CellLists.{cell_no}
use Rattle.closure.proofs.unsettled.find_missing.Given as goal

abbrev pub invariant-loop-number : goal.invariant-loop-number
invariant-loop-number l =
    MatchOption l.missing ((i : ℕ) → i < l.number → Has l.boxes.members (cell_no l.kept i))
    (λ known. (known < length l.kept) × Lacks l.boxes.members (cell_no l.kept known)
    × ((i : ℕ) → i < l.number → Has l.boxes.members (cell_no l.kept i) ⊎ (cell_no l.kept i ≡ cell_no l.kept known)))
