-- So far the text has the lines of the rows before this one.
use Rattle.std.proofs.Common.{◌≡◌, ◌≤◌, ◌+◌, ◌*◌, vec_capacity}
use Rattle.report.specs.DeadMap.{rows_text}
use Rattle.report.proofs.map.rows_with.Given as goal

abbrev pub invariant-loop-row : goal.invariant-loop-row
invariant-loop-row g l = record {
  text : l.text.items ≡ rows_text l.board (g.S.CellSet.members l.dead) l.row;
  capacity : (l.board.shape.width + 1) * l.board.shape.height ≤ vec_capacity l.text;
}
