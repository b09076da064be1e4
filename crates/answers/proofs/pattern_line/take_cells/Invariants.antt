use Rattle.std.proofs.Common.{length}
use Rattle.answers.proofs.TakenCells.{Continues}
use Rattle.answers.proofs.pattern_line.take_cells.Given as goal

abbrev pub invariant-loop-cell : goal.invariant-loop-cell
invariant-loop-cell l = Continues l.text l.cells.items l.last l.rest

abbrev pub decreases-loop-cell : goal.decreases-loop-cell
decreases-loop-cell l = length l.rest
