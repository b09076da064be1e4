use Rattle.std.proofs.Common.{◌≡◌, ◌⊎◌, ℕ, ◌+◌, ◌-◌, ◌<◌, ◌≤◌, length, slice_index_or}
use Rattle.std.specs.List.{Contains}
use Rattle.reach.specs.declared.pushes.Push.{Push}
use Rattle.closure.specs.Component.{InComponent}
use Rattle.closure.proofs.unsettled.Unsettled.enter.Given as goal

abbrev pub invariant-loop-at : goal.invariant-loop-at
invariant-loop-at l = record {
  within : l.at ≤ length l.self.away.pushes;
  kept : (push : Push) → Contains l.fn.self.away.pushes push → Contains l.self.away.pushes push ⊎ Contains l.self.here.pushes push;
  only : (push : Push) → Contains l.self.away.pushes push → Contains l.fn.self.away.pushes push;
  out : (i : ℕ) (d : Push) → i < l.at → InComponent l.flood (slice_index_or l.self.away.pushes i d).player → ⊥;
  here : (push : Push) → Contains l.self.here.pushes push → Contains l.fn.self.away.pushes push × InComponent l.flood push.player;
  sum : length l.self.away.pushes + length l.self.here.pushes ≤ length l.fn.self.away.pushes;
  extents : (l.self.away.extent ≡ l.fn.self.away.extent) × (l.self.here.extent ≡ l.fn.self.here.extent);
  search : l.self.search ≡ l.fn.self.search;
  inside : l.self.inside ≡ l.fn.self.inside;
}

abbrev pub decreases-loop-at : goal.decreases-loop-at
decreases-loop-at l = length l.self.away.pushes - l.at
