use Rattle.std.{proofs.Common.◌≡◌, proofs.Common.ℕ, proofs.Common.◌<◌, proofs.Common.Some, proofs.Common.slice_index_or, specs.List.Contains}
use Rattle.cellset.specs.CellSet.{Has}
use Rattle.reach.specs.{Pushes.PushBefore, declared.pushes.Push.Push}
use Rattle.closure.proofs.Lists.{no_push}
use Rattle.closure.proofs.settling.least_of.Given as goal

abbrev pub invariant-loop-push : goal.invariant-loop-push
invariant-loop-push l = record {
  only : (f : Push) → l.first ≡ Some f → Contains l.pushes f × Has l.region.members f.player;
  least : (i : ℕ) → i < l.push-index → Has l.region.members (slice_index_or l.pushes i no_push).player
      → (f : Push) × (l.first ≡ Some f) × (PushBefore (slice_index_or l.pushes i no_push) f → ⊥);
}
