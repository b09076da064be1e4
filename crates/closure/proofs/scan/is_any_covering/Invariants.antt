use Rattle.std.proofs.Common.{ℕ, ◌<◌, slice_index_or}
use Rattle.closure.specs.Scan.{EntryCells, EntryCovers}
use Rattle.closure.proofs.scan.is_any_covering.Given as goal

abbrev pub invariant-loop-entry : goal.invariant-loop-entry
invariant-loop-entry g l = (k : ℕ) (e : EntryCells) → k < l.entry-index → EntryCovers (g.S.CellSet.members l.room) (slice_index_or l.entries k e)
    (record { player = l.player; boxes = g.S.CellSet.members l.boxes }) → ⊥
