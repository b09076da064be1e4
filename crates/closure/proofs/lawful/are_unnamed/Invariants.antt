use Rattle.std.proofs.Common.{take}
use Rattle.cellset.specs.{CellSet.Has, CellSet.Lacks, declared.cell.Cell.Cell}
use Rattle.certificates.specs.CellLists.{cells_in}
use Rattle.closure.proofs.lawful.are_unnamed.Given as goal

abbrev pub invariant-loop-seed : goal.invariant-loop-seed
invariant-loop-seed l = (c : Cell) → Has (cells_in (take l.seed-index l.seeds)) c → Lacks (cells_in l.boxes) c
