use Rattle.std.proofs.Common.{◌≡◌, ℕ, ◌<◌, slice_index}
use Rattle.closure.specs.Settling.{CoversNone, HasAsked}
use Rattle.closure.proofs.unsettled.Unsettled.settle_inside.Given as goal

abbrev pub invariant-loop-at : goal.invariant-loop-at
invariant-loop-at g l = record {
  place : l.place ≡ l.fn.place;
  asked : HasAsked l.task l.fn.self l.self;
  none : (k : ℕ) → k < l.at → CoversNone l.task (slice_index l.self.inside.items k) l.self.here.pushes;
}
