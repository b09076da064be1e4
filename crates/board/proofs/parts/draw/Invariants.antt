use Rattle.std.proofs.Common.{◌≡◌, take, drop}
use Rattle.std.specs.FinSet as set
use Rattle.board.specs.Lines.{lines_in}
use Rattle.board.specs.Parts.{HasRows, AreDrawn}
use Rattle.board.proofs.parts.draw.Given as goal

abbrev pub invariant-loop-row : goal.invariant-loop-row
invariant-loop-row g l = record {
  left : lines_in l.rest ≡ drop l.row (lines_in l.text);
  shape : l.parts.shape ≡ l.fn.parts.shape;
  rows : HasRows g.S.CellSet.extent g.S.CellSet.members l.parts set.empty;
  drawn : AreDrawn (take l.row (lines_in l.text)) g.S.CellSet.members l.parts;
}
