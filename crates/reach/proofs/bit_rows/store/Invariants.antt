use Rattle.std.proofs.Common.{◌≡◌, ◌<◌}
use Rattle.std.specs.Prelude.{◌↔◌, ◌⊎◌}
use Rattle.cellset.specs.CellSet.{Has}
use Rattle.cellset.specs.declared.cell.Cell.{Cell}
use Rattle.reach.specs.BitRows.{InRows}
use Rattle.reach.proofs.bit_rows.store.Given as goal

abbrev pub invariant-loop-y : goal.invariant-loop-y
invariant-loop-y g l = record {
  extent : g.S.CellSet.extent l.into ≡ g.S.CellSet.extent l.fn.into;
  members : (c : Cell) → Has (g.S.CellSet.members l.into) c ↔ (Has (g.S.CellSet.members l.fn.into) c ⊎ ((c.row < l.y) × InRows l.rows c));
}
