-- Finite sets of cells. Two sets with the same members are one value.
use Rattle.std.specs.Prelude.{◌≡◌, true, false, Option, None, Some}
use Rattle.std.specs.FinSet.{FinSet, contains}
use Rattle.std.specs.FinSet as set
use Rattle.cellset.specs.Shape.{Extent}
use Rattle.cellset.specs.Cell.{cell_cmp, Before}
use Rattle.cellset.specs.declared.cell.Cell.{Cell}

-- a finite set of cells
abbrev pub Cells : Type 0
Cells = FinSet cell_cmp

-- the cell is a member
abbrev pub Has : Cells → Cell → Type 0
Has s c = contains s c ≡ true

-- the cell is no member
abbrev pub Lacks : Cells → Cell → Type 0
Lacks s c = contains s c ≡ false

-- the set of one cell
abbrev pub only : Cell → Cells
only c = set.insert set.empty c

-- the first member at this cell or after it, in reading order, or none
abbrev pub IsFirstFrom : Cells → Cell → Option Cell → Type 0
IsFirstFrom s from None = (q : Cell) → Has s q → Before q from
IsFirstFrom s from (Some m) = Has s m × (Before m from → ⊥) × ((q : Cell) → Has s q → Before q m → Before q from)

-- a set of cells of a grid
pub record CellsOn : Type 0 where
  pub extent : Extent
  pub members : Cells
