-- Regions: the cells joined to a seed.
--     Joined IsFree IsSeed      joined by a chain of neighbours, by what is free and what is a seed
--     IsFree      what a region may hold: the cells of the grid that are neither wall nor barrier
--     IsRegion      the set of all cells in the region of the seeds
use Rattle.std.specs.Prelude.{◌≡◌, ◌⊎◌, ◌↔◌}
use Rattle.cellset.specs.Shape.{Extent}
use Rattle.cellset.specs.Cell.{IsOn, neighbor}
use Rattle.cellset.specs.CellSet.{Cells, Has, Lacks}
use Rattle.cellset.specs.declared.cell.Cell.{Cell}
use Rattle.cellset.specs.declared.dir.Dir.{Dir}

-- a chain of free neighbours joins the cell to a seed, and both ends are free
pub data Joined (IsFree IsSeed : Cell → Type 0) : Cell → Type 0 where
  at_seed : {c : Cell} → IsSeed c → IsFree c → Joined IsFree IsSeed c
  beside : {c : Cell} (d : Dir) → Joined IsFree IsSeed c → IsFree (neighbor c d) → Joined IsFree IsSeed (neighbor c d)

-- the cell is on the grid and outside both sets
pub record IsFree (shape : Extent) (walls barrier : Cells) (c : Cell) : Type 0 where
  pub on : IsOn shape c
  pub no_wall : Lacks walls c
  pub no_bar : Lacks barrier c

-- a chain of cells outside walls and barrier joins the cell to one of the seeds
abbrev pub InRegion : Extent → Cells → Cells → Cells → Cell → Type 0
InRegion shape walls barrier seeds = Joined (IsFree shape walls barrier) (Has seeds)

-- the members of the set are the cells in the region of the seeds
abbrev pub IsRegion : Extent → Cells → Cells → Cells → Cells → Type 0
IsRegion shape walls barrier seeds region = (c : Cell) → Has region c ↔ InRegion shape walls barrier seeds c

-- the cell lies in the first or last row or column of the grid
abbrev pub IsAtEdge : Extent → Cell → Type 0
IsAtEdge shape c = (c.row ≡ 1) ⊎ ((c.row ≡ shape.height) ⊎ ((c.column ≡ 1) ⊎ (c.column ≡ shape.width)))
