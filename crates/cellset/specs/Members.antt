-- The members of a set as a list in reading order, and those that an iterator still has to give.
use Rattle.std.specs.Prelude.{◌↔◌, Bool, false, not, ◌&&◌, List, Option, None, Some}
use Rattle.std.specs.List.{Contains, filter}
use Rattle.std.specs.List.Sorted.{IsStrictlySortedBy}
use Rattle.std.specs.Ordering.{is_lt}
use Rattle.std.specs.FinSet.{contains}
use Rattle.cellset.specs.Shape.{Extent}
use Rattle.cellset.specs.Cell.{IsOn, cell_cmp}
use Rattle.cellset.specs.CellSet.{Cells, Has}
use Rattle.cellset.specs.Grid.{grid_cells}
use Rattle.cellset.specs.declared.cell.Cell.{Cell}

-- the list has exactly the members of a set, each once, in reading order; all lie on the grid
pub record AreMembersOf (shape : Extent) (s : Cells) (cells : List Cell) : Type 0 where
  pub exact : (c : Cell) → Contains cells c ↔ Has s c
  pub on : (c : Cell) → Contains cells c → IsOn shape c
  pub in_order : IsStrictlySortedBy cell_cmp cells

-- ---- the list of the members that are left
-- the cell is this one or comes after it; after the last cell none does
abbrev pub is_left : Option Cell → Cell → Bool
is_left None q = false
is_left (Some from) q = not (is_lt (cell_cmp q from))

-- the members from a cell on, in reading order
unfoldable pub members_left : Extent → Cells → Option Cell → List Cell
members_left shape s from = filter (λ q. contains s q && is_left from q) (grid_cells shape)
