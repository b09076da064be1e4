use Rattle.std.proofs.Common.{◌⊎◌, length}
use Rattle.std.specs.List.{Contains}
use Rattle.reach.specs.declared.pushes.Push.{Push}
use Rattle.closure.specs.{Lookups.IsReady, Settling.IsPushOut, Settling.IsSettled}
use Rattle.closure.proofs.lookups.Lookups.settle.Given as goal

abbrev pub invariant-loop-self : goal.invariant-loop-self
invariant-loop-self g l = record {
  ready : IsReady l.task l.self;
  only : (push : Push) → Contains l.self.left.items push → IsPushOut l.task push × (IsSettled l.task push → ⊥);
  all : (push : Push) → IsPushOut l.task push → Contains l.self.left.items push ⊎ (Contains l.self.unsettled.away.pushes push ⊎ IsSettled l.task push);
}

abbrev pub decreases-loop-self : goal.decreases-loop-self
decreases-loop-self g l = length l.self.unsettled.away.pushes
