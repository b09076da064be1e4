-- The ring of a cell: the eight cells around it, and the three rows that have them.
use Rattle.std.specs.Prelude.{ℕ, ◌+◌, ◌-◌, ◌<◌, IsTrue, List, ◌↔◌}
use Rattle.cellset.specs.Cell.{cell_at, neighbor}
use Rattle.cellset.specs.declared.cell.Cell.{Cell}
use Rattle.cellset.specs.declared.dir.Dir.TheVariants.{L, U, R, D}
use Rattle.reach.specs.BitRows.{InRows}
use Rattle.reach.specs.declared.rings.Ring.{Ring}

-- the ring says which of the eight cells around a cell are in the set; a corner is the neighbour of a neighbour
pub record IsRing (In : Cell → Type 0) (c : Cell) (ring : Ring) : Type 0 where
  pub left : IsTrue ring.left ↔ In (neighbor c L)
  pub left_up : IsTrue ring.left_up ↔ In (neighbor (neighbor c L) U)
  pub up : IsTrue ring.up ↔ In (neighbor c U)
  pub up_right : IsTrue ring.up_right ↔ In (neighbor (neighbor c U) R)
  pub right : IsTrue ring.right ↔ In (neighbor c R)
  pub right_down : IsTrue ring.right_down ↔ In (neighbor (neighbor c R) D)
  pub down : IsTrue ring.down ↔ In (neighbor c D)
  pub down_left : IsTrue ring.down_left ↔ In (neighbor (neighbor c D) L)

-- three rows of three columns say what is in the set around the cell, from the corner before it on
abbrev pub AreAround : (Cell → Type 0) → Cell → List (List ℕ) → Type 0
AreAround In c rows = (q : Cell) → q.row < 3 → q.column < 3 → InRows rows q ↔ In (cell_at (c.column - 1 + q.column) (c.row - 1 + q.row))
