-- So far the line has the characters of the columns before this one.
use Rattle.std.proofs.Common.{◌≡◌, ◌++◌, vec_capacity}
use Rattle.report.specs.DeadMap.{row_text}
use Rattle.report.proofs.map.push_row.Given as goal

abbrev pub invariant-loop-column : goal.invariant-loop-column
invariant-loop-column g l = record {
  text : l.text.items ≡ l.fn.text.items ++ row_text l.board (g.S.CellSet.members l.dead) l.row l.column;
  capacity : vec_capacity l.text ≡ vec_capacity l.fn.text;
}
