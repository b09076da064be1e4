use Rattle.std.proofs.Common.{◌≡◌, ℕ}
use Rattle.std.specs.List.{Contains}
use Rattle.closure.specs.{Search.searches_left, Settling.CoversNone, Settling.IsOnward}
use Rattle.closure.proofs.unsettled.Unsettled.settle_here.Given as goal

abbrev pub invariant-loop-self : goal.invariant-loop-self
invariant-loop-self g l = record {
  place : l.place ≡ l.fn.place;
  onward : IsOnward l.task l.buckets l.fn.self l.self;
  none : (h : ℕ) → Contains l.self.inside.items h → CoversNone l.task h l.self.here.pushes;
}

abbrev pub decreases-loop-self : goal.decreases-loop-self
decreases-loop-self g l = searches_left l.task.tables.now.groups l.self.search
