use Rattle.std.{proofs.Common.◌≡◌, proofs.Common.take, specs.Prelude.◌↔◌, specs.Prelude.IsTrue}
use Rattle.cellset.specs.{CellSet.Has, CellSet.Lacks, declared.cell.Cell.Cell}
use Rattle.certificates.specs.CellLists.{cells_in}
use Rattle.closure.specs.Around.{IsOneComponent}
use Rattle.closure.proofs.group_regions.Flood.take_out.Given as goal

abbrev pub invariant-loop-cell : goal.invariant-loop-cell
invariant-loop-cell l = record {
  region : l.self.region ≡ l.fn.self.region;
  extent : l.self.free.extent ≡ l.fn.self.free.extent;
  whole : IsTrue l.self.whole → IsOneComponent (Has l.self.free.members);
  free : (c : Cell) → Has l.self.free.members c ↔ (Has l.room.members c × Lacks (cells_in (take l.cell-index l.boxes)) c);
}
