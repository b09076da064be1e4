use Rattle.std.proofs.Common.{◌≡◌, ◌+◌, ◌-◌, ◌<◌, ◌≤◌, ℕ, List, arith}
use Rattle.std.specs.Prelude.{◌↔◌}
use Rattle.cellset.specs.Cell.{cell_at, neighbor}
use Rattle.cellset.specs.CellSet.{Has}
use Rattle.cellset.specs.declared.cell.Cell.{Cell}
use Rattle.cellset.specs.declared.dir.Dir.TheVariants.{L, U, R, D}
use Rattle.reach.specs.Rings.{AreAround, IsRing}
use Rattle.reach.specs.BitRows.{InRows}
use Rattle.reach.specs.declared.rings.Ring.{Ring}
use Rattle.reach.proofs.Sets.{has_is}
use Rattle.reach.proofs.rows.Rows.ring.Goals.{in-Narrow, in-Wide}
use Rattle.reach.proofs.rows.Rows.ring.Goals as goal

-- the ring of the middle of three rows is the ring of the cell around which they lie
module _ (In : Cell → Type 0) (c : Cell) (top : 1 ≤ c.row) (left : 1 ≤ c.column) (rows : List (List ℕ)) (around : AreAround In c rows) where
  at_place : (A : Type 0) (row column : ℕ) (to : Cell) → row < 3 → column < 3 → c.column - 1 + column ≡ to.column → c.row - 1 + row ≡ to.row
      → A ↔ InRows rows (cell_at column row) → A ↔ In to
  at_place A row column to low near x y is =
      let there = rw (x, y) at (around (cell_at column row) low near) in
      (λ a. there.0 (is.0 a), λ h. is.1 (there.1 h))

  ring_around : (ring : Ring) → IsRing (InRows rows) (cell_at 1 1) ring → IsRing In c ring
  ring_around ring is = record {
    left = at_place _ 1 0 (neighbor c L) (omega arith) (omega arith) (omega arith) (omega arith) is.left;
    left_up = at_place _ 0 0 (neighbor (neighbor c L) U) (omega arith) (omega arith) (omega arith) (omega arith) is.left_up;
    up = at_place _ 0 1 (neighbor c U) (omega arith) (omega arith) (omega arith) (omega arith) is.up;
    up_right = at_place _ 0 2 (neighbor (neighbor c U) R) (omega arith) (omega arith) (omega arith) (omega arith) is.up_right;
    right = at_place _ 1 2 (neighbor c R) (omega arith) (omega arith) (omega arith) (omega arith) is.right;
    right_down = at_place _ 2 2 (neighbor (neighbor c R) D) (omega arith) (omega arith) (omega arith) (omega arith) is.right_down;
    down = at_place _ 2 1 (neighbor c D) (omega arith) (omega arith) (omega arith) (omega arith) is.down;
    down_left = at_place _ 2 0 (neighbor (neighbor c D) L) (omega arith) (omega arith) (omega arith) (omega arith) is.down_left;
  }

pub returns : goal.returns
returns c =
    let around : AreAround (Has c.args.self.now.members) c.args.cell c.match-self.around = elim c.match-self.branch [
      | in-Narrow w ↦ rw w.around-is (grind (arith, has_is))
      | in-Wide w ↦ rw w.around-is (grind (arith, has_is))
    ] in
    ring_around _ c.args.cell c.requires.top c.requires.left c.match-self.around around c.read_ring.result c.read_ring.ensures
