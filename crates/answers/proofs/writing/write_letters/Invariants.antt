-- The lines so far are written, the lines of the letters that are left make up the rest, and the sink has
-- not failed.
use Rattle.std.proofs.Common.{◌≡◌, ◌++◌, ℕ, List, length}
use Rattle.std.specs.List.{flat_map}
use Rattle.answers.specs.Canonical.{ended, letter_lines}
use Rattle.devices.proofs.WrittenTexts.{Whole}
use Rattle.answers.proofs.writing.write_letters.Given as goal

abbrev pub invariant-loop-rest : goal.invariant-loop-rest
invariant-loop-rest g l =
    (front : List ℕ) × Whole g.W.Sink l.fn.sink l.sink front tt × (front ++ flat_map ended (letter_lines l.rest) ≡ flat_map ended (letter_lines l.letters))

abbrev pub decreases-loop-rest : goal.decreases-loop-rest
decreases-loop-rest g l = length l.rest
