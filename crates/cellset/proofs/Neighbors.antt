-- Steps on a grid. Rows and columns count from 1, so a step from a cell of the grid never subtracts from 0, and the
-- opposite step leads back.
use Rattle.std.proofs.Common.{◌≡◌, ◌≤◌, arith}
use Rattle.cellset.specs.Cell.{neighbor, opposite}
use Rattle.cellset.specs.declared.cell.Cell.{Cell}
use Rattle.cellset.specs.declared.dir.Dir.{Dir}
use Rattle.cellset.specs.declared.dir.Dir.TheVariants.{L, U, R, D}

-- a step and the opposite step lead back to the cell
pub neighbor_back : (c : Cell) (d : Dir) → 1 ≤ c.row → 1 ≤ c.column → neighbor (neighbor c d) (opposite d) ≡ c
neighbor_back c L row column = grind arith
neighbor_back c U row column = grind arith
neighbor_back c R row column = grind arith
neighbor_back c D row column = grind arith

-- the opposite step and then the step lead back too
pub neighbor_forth : (c : Cell) (d : Dir) → 1 ≤ c.row → 1 ≤ c.column → neighbor (neighbor c (opposite d)) d ≡ c
neighbor_forth c L = neighbor_back c R
neighbor_forth c U = neighbor_back c D
neighbor_forth c R = neighbor_back c L
neighbor_forth c D = neighbor_back c U
