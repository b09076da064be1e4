-- The pushes that an iterator of pushes still has to give. It has cells left to try, each with each direction; a test says which of these
-- are pushes.
use Rattle.std.specs.Prelude.{◌≡◌, Bool, not, ◌&&◌, List, [], ◌∷◌, ◌++◌, Option, None, Some, nat_le}
use Rattle.std.specs.List.{AllByRecursion, filter, flat_map}
use Rattle.std.specs.FinSet.{contains}
use Rattle.cellset.specs.Shape.{Extent}
use Rattle.cellset.specs.Cell.{IsOn}
use Rattle.cellset.specs.CellSet.{Cells}
use Rattle.cellset.specs.declared.cell.Cell.{Cell}
use Rattle.cellset.specs.declared.dir.Dir.{Dir}
use Rattle.cellset.specs.declared.dir.Dir.TheVariants.{L, U, R, D}
use Rattle.reach.specs.Pushes.{push_by}
use Rattle.reach.specs.declared.pushes.Push.{Push}

-- a player at a cell tries each direction, from one on
abbrev pub tries_from : Cell → Dir → List Push
tries_from c L = push_by c L ∷ push_by c U ∷ push_by c R ∷ push_by c D ∷ []
tries_from c U = push_by c U ∷ push_by c R ∷ push_by c D ∷ []
tries_from c R = push_by c R ∷ push_by c D ∷ []
tries_from c D = push_by c D ∷ []

abbrev pub tries_ahead : Option (Cell × Dir) → List Push
tries_ahead None = []
tries_ahead (Some (c, d)) = tries_from c d

-- what is left: perhaps a cell from a direction on, and then the players' cells with each direction
abbrev pub tries_left : Option (Cell × Dir) → List Cell → List Push
tries_left ahead players = tries_ahead ahead ++ flat_map (λ c. tries_from c L) players

-- tests: for `IsOn`, and whether a box is moved to a free cell
abbrev pub is_on : Extent → Cell → Bool
is_on shape c = nat_le 1 c.row && (nat_le c.row shape.height && (nat_le 1 c.column && nat_le c.column shape.width))

abbrev pub is_push : Extent → Cells → Cells → Push → Bool
is_push shape walls boxes p = contains boxes p.from && (is_on shape p.to && (not (contains walls p.to) && not (contains boxes p.to)))

-- the pushes that are left
abbrev pub pushes_left : Extent → Cells → Cells → Option (Cell × Dir) → List Cell → List Push
pushes_left shape walls boxes ahead players = filter (is_push shape walls boxes) (tries_left ahead players)

-- the sets are on one grid, and so is each player's cell that is left
pub record AreTried (shape boxes_shape : Extent) (ahead : Option (Cell × Dir)) (players : List Cell) : Type 0 where
  pub same : boxes_shape ≡ shape
  pub on : AllByRecursion (λ p. IsOn shape p.player) (tries_left ahead players)
