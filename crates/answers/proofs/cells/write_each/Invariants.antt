-- The cells before the rest are written, and the sink has not failed.
use Rattle.std.proofs.Common.{◌≡◌, ◌++◌, ℕ, List, length}
use Rattle.std.specs.List.{flat_map}
use Rattle.answers.specs.CellTexts.{between}
use Rattle.devices.proofs.WrittenTexts.{Whole}
use Rattle.answers.proofs.cells.write_each.Given as goal

abbrev pub invariant-loop-rest : goal.invariant-loop-rest
invariant-loop-rest g l =
    (front : List ℕ) × Whole g.W.Sink l.fn.sink l.sink front tt
    × (front ++ flat_map (between l.before l.after) l.rest ≡ flat_map (between l.before l.after) l.cells)

abbrev pub decreases-loop-rest : goal.decreases-loop-rest
decreases-loop-rest g l = length l.rest
