-- Rows of one word or of four, as the cells of a grid.
use Rattle.std.specs.Prelude.{ℕ, List, Option, IfSome}
use Rattle.cellset.specs.Shape.{Extent}
use Rattle.cellset.specs.CellSet.{CellsOn}
use Rattle.reach.specs.RowSet.{AreRowsOf, AreRowsQueued, members_in}
use Rattle.reach.specs.declared.worklist.Worklist.{Worklist}
use Rattle.reach.specs.declared.rows.ByWidth.{ByWidth}
use Rattle.reach.specs.declared.rows.ByWidth.TheVariants.{Narrow, Wide}

-- the rows of either width
abbrev pub rows_in : ByWidth → List (List ℕ)
rows_in (Narrow rows) = rows.items
rows_in (Wide rows) = rows.items

-- the number of words in each row
abbrev pub words_in : ByWidth → ℕ
words_in (Narrow _) = 1
words_in (Wide _) = 4

-- rows of either width are those of a grid
abbrev pub AreRows : Extent → ByWidth → Type 0
AreRows shape rows = AreRowsOf (words_in rows) shape (rows_in rows)

-- the cells of rows of either width
abbrev pub cells_in : Extent → ByWidth → CellsOn
cells_in shape rows = record { extent = shape; members = members_in shape (rows_in rows) }

-- the worklist has the rows of the cells, if it is known
abbrev pub IsOccupied : CellsOn → Option (Worklist 4) → Type 0
IsOccupied cells occupied = IfSome occupied (λ w. AreRowsQueued cells w.words)
