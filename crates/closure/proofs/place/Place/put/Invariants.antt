use Rattle.std.{proofs.Common.◌≡◌, proofs.Common.take, specs.Prelude.◌⊎◌, specs.Prelude.◌↔◌}
use Rattle.cellset.specs.{CellSet.Has, declared.cell.Cell.Cell}
use Rattle.certificates.specs.CellLists.{cells_in}
use Rattle.closure.proofs.place.Place.put.Given as goal

abbrev pub invariant-loop-cell : goal.invariant-loop-cell
invariant-loop-cell l = record {
  player : l.self.player ≡ l.fn.self.player;
  extent : l.self.boxes.extent ≡ l.fn.self.boxes.extent;
  members : (c : Cell) → Has l.self.boxes.members c ↔ (Has l.fn.self.boxes.members c ⊎ Has (cells_in (take l.cell-index l.boxes)) c);
}
