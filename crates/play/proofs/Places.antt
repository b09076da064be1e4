-- Places. Rows are 256 apart and no side is above 255, so cells of the grid have different places, and no cell beyond
-- the grid shares one with them: those are in row 0, in column 0, or where one of these begins again. So a step onto
-- any cell beside one of the grid is one addition.
use Rattle.std.proofs.Common.{◌≡◌, ◌+◌, ◌*◌, ◌%◌, ◌^◌, ◌<◌, arith}
use Rattle.std.proofs.lemmas.Bool.{cases_lt}
use Rattle.cellset.specs.Shape.{Extent, HasSides}
use Rattle.cellset.specs.Cell.{neighbor, IsOn}
use Rattle.cellset.specs.declared.cell.Cell.{Cell}
use Rattle.cellset.specs.declared.dir.Dir.{Dir}
use Rattle.cellset.specs.declared.dir.Dir.TheVariants.{L, U, R, D}
use Rattle.play.specs.Mailbox.{place_of, stride, IsNear}

module _ (shape : Extent) where
  pub near_on : {c : Cell} → IsOn shape c → IsNear shape c
  near_on on = grind arith

  pub near_neighbor : {c : Cell} (d : Dir) → IsOn shape c → IsNear shape (neighbor c d)
  near_neighbor L on = grind arith
  near_neighbor U on = grind arith
  near_neighbor R on = grind arith
  near_neighbor D on = grind arith

  -- a cell is on the grid or not
  pub on_or_off : {G : Type 0} (c : Cell) → (IsOn shape c → G) → ((IsOn shape c → ⊥) → G) → G
  on_or_off c here off = grind (arith, cases_lt)

module _ (shape : Extent) (sides : HasSides shape.width shape.height) where
  pub place_step : (c : Cell) (d : Dir) → IsOn shape c → (place_of c + stride d) % 2 ^ 16 ≡ place_of (neighbor c d)
  place_step c L on = grind arith
  place_step c U on = grind arith
  place_step c R on = grind arith
  place_step c D on = grind arith

  same_cell : (a b : Cell) → a.row ≡ b.row → a.column ≡ b.column → a ≡ b
  same_cell a b x y = grind arith

  -- a cell near the grid with the place of one on it is that one
  pub place_one : {c q : Cell} → IsNear shape c → IsOn shape q → place_of c ≡ place_of q → c ≡ q
  place_one near on e = grind (arith, same_cell)

  pub place_some : {c : Cell} → IsOn shape c → place_of c ≡ 0 → ⊥
  place_some on e = grind arith

  -- places of the grid have their row and their column
  pub place_on : {c : Cell} → IsOn shape c → place_of c ≡ 256 * c.row + c.column
  place_on on = grind arith

pub place_fits : (c : Cell) → place_of c < 2 ^ 16
place_fits c = omega arith
