-- Cells and sets of cells are data: each is coded by values that are data already.
use Rattle.std.specs.Prelude.{ℕ, refl}
use Rattle.std.specs.Coded.{Coded, code_by, coded×, coded_ℕ}
use Rattle.std.specs.FinSet as set
use Rattle.cellset.specs.CellSet.{Cells, CellsOn}
use Rattle.cellset.specs.declared.cell.Cell.{Cell}

-- a cell is data
abbrev pub coded_cell : Coded Cell
coded_cell = code_by (ℕ × ℕ) (coded× coded_ℕ coded_ℕ) (λ c. (c.row, c.column)) (λ p. record { row = p.0; column = p.1 }) (λ _. refl)

-- a set of cells is data
abbrev pub coded_cells : Coded Cells
coded_cells = set.code coded_cell

-- a set of cells of a grid is data
abbrev pub coded_cells_on : Coded CellsOn
coded_cells_on = code_by ((ℕ × ℕ) × Cells) (coded× (coded× coded_ℕ coded_ℕ) coded_cells) (λ v. ((v.extent.width, v.extent.height), v.members))
    (λ p. record { extent = record { width = p.0.0; height = p.0.1 }; members = p.1 }) (λ _. refl)
