-- The region has what it had, the free cells among the seeds so far, and no other cell.
use Rattle.std.{proofs.Common.◌≡◌, proofs.Common.take, specs.Prelude.◌⊎◌, specs.Prelude.◌↔◌}
use Rattle.cellset.specs.{CellSet.Has, declared.cell.Cell.Cell}
use Rattle.certificates.specs.CellLists.{cells_in}
use Rattle.closure.proofs.group_regions.add_seeds.Given as goal

abbrev pub invariant-loop-seed : goal.invariant-loop-seed
invariant-loop-seed l = record {
  extent : l.region.extent ≡ l.free.extent;
  cells : (c : Cell) → Has l.region.members c ↔ (Has l.fn.region.members c ⊎ (Has (cells_in (take l.seed-index l.seeds)) c × Has l.free.members c));
}
