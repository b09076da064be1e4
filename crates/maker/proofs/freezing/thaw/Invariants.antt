use Rattle.std.proofs.Common.{◌≡◌, ◌≤◌, vec_capacity}
use Rattle.std.specs.List.{Contains}
use Rattle.cellset.specs.Cell.{IsOn}
use Rattle.cellset.specs.declared.cell.Cell.{Cell}
use Rattle.maker.specs.Review.{work_left}
use Rattle.maker.proofs.Thawing.{IsThawing}
use Rattle.maker.proofs.freezing.thaw.Given as goal

abbrev pub invariant-loop-cell : goal.invariant-loop-cell
invariant-loop-cell g l =
    let members = g.S.CellSet.members in
    record {
      extent : g.S.CellSet.extent l.frozen ≡ l.board.shape;
      space : work_left (members l.frozen) l.work.items ≤ vec_capacity l.work;
      listed : (q : Cell) → Contains l.work.items q → IsOn l.board.shape q;
      thawing : IsThawing l.board l.dead.members (members l.frozen) l.work.items;
    }

abbrev pub decreases-loop-cell : goal.decreases-loop-cell
decreases-loop-cell g l = work_left (g.S.CellSet.members l.frozen) l.work.items
