-- The letters of the pieces so far, and then the letters of the lines that are left, are the letters of all lines.
use Rattle.std.proofs.Common.{◌≡◌, ◌≤◌, ◌+◌, ◌++◌, length}
use Rattle.std.specs.Prelude.{sum_by}
use Rattle.answers.specs.Pieces.{joined, letters_in, unbroken}
use Rattle.answers.proofs.pieces.pieces_of.Given as goal

abbrev pub invariant-loop-left : goal.invariant-loop-left
invariant-loop-left l = record {
  letters : unbroken (joined l.pieces.items) ++ letters_in l.left ≡ letters_in l.lines;
  within : sum_by (λ piece. length piece.now) l.pieces.items + length l.left ≤ length l.lines;
}

abbrev pub decreases-loop-left : goal.decreases-loop-left
decreases-loop-left l = length l.left
