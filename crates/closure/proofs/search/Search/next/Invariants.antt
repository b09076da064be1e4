use Rattle.std.proofs.Common.{◌≡◌, ℕ, ◌<◌, ◌≤◌, ◌-◌, length}
use Rattle.closure.specs.Search.{IsPassed, IsSearch, searches_left}
use Rattle.closure.proofs.search.Search.next.Given as goal

abbrev pub invariant-loop-self : goal.invariant-loop-self
invariant-loop-self g l = record {
  search : IsSearch l.task.tables.now.board.now.shape l.task.tables.now.groups l.buckets l.self;
  cells : l.self.cells ≡ l.fn.self.cells;
  passed : (k : ℕ) → k < length l.task.tables.now.groups.spans.items → IsPassed l.task.tables.now.board.now.shape l.buckets l.self k →
      IsPassed l.task.tables.now.board.now.shape l.buckets l.fn.self k;
  fewer : searches_left l.task.tables.now.groups l.self ≤ searches_left l.task.tables.now.groups l.fn.self;
}

abbrev pub decreases-loop-self : goal.decreases-loop-self
decreases-loop-self g l = length l.self.cells.items - l.self.begun
