use Rattle.std.proofs.Common.{◌≡◌, ℕ, ◌≢◌, ◌+◌, ◌-◌, ◌*◌, ◌<◌, ◌≤◌, length}
use Rattle.board.specs.Characters.{is_wall, is_player, is_box, is_goal}
use Rattle.std.specs.FinSet as set
use Rattle.board.specs.Lines.{byte_at, first_row}
use Rattle.board.specs.Parts.{HasRows}
use Rattle.board.proofs.Drawing.{IsRowDrawn}
use Rattle.board.proofs.parts.draw_row.Given as goal

abbrev pub invariant-loop-part : goal.invariant-loop-part
invariant-loop-part g l =
    let members = g.S.CellSet.members in
    record {
      from : l.from + 1 ≡ 64 * l.part + (1 - l.part);
      within : l.from ≤ length l.text;
      before : (k : ℕ) → k < l.from → byte_at l.text k ≢ 10;
      shape : l.parts.shape ≡ l.fn.parts.shape;
      rows : HasRows g.S.CellSet.extent members l.parts set.empty;
      wall : IsRowDrawn is_wall (first_row l.text) l.row l.part (members l.fn.parts.walls) (members l.parts.walls);
      goal : IsRowDrawn is_goal (first_row l.text) l.row l.part (members l.fn.parts.goals) (members l.parts.goals);
      box : IsRowDrawn is_box (first_row l.text) l.row l.part (members l.fn.parts.boxes) (members l.parts.boxes);
      player : IsRowDrawn is_player (first_row l.text) l.row l.part (members l.fn.parts.room) (members l.parts.room);
    }
