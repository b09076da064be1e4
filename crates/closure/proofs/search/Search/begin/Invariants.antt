use Rattle.std.proofs.Common.{ℕ, ◌<◌, slice_index_or}
use Rattle.std.specs.List.{Contains}
use Rattle.cellset.specs.{Cell.IsOn, declared.cell.Cell.Cell}
use Rattle.reach.specs.declared.pushes.Push.{Push}
use Rattle.closure.proofs.search.Search.begin.Given as goal

abbrev pub invariant-loop-push : goal.invariant-loop-push
invariant-loop-push g l = record {
  on : (c : Cell) → Contains l.self.cells.items c → IsOn l.task.tables.now.board.now.shape c;
  ahead : (i : ℕ) (p : Push) → i < l.push-index → Contains l.self.cells.items (slice_index_or l.pushes i p).to;
}
