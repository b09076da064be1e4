use Rattle.cellset.specs.Cell.{cell_at}
use Rattle.cellset.specs.CellSet.{Has}
use Rattle.reach.proofs.Loads.{IsLoaded}
use Rattle.reach.proofs.bit_rows.row_of.Given as goal

abbrev pub invariant-loop-part : goal.invariant-loop-part
invariant-loop-part g l = IsLoaded (λ k. Has (g.S.CellSet.members l.cells) (cell_at k l.y)) g.row.N l.part l.row
