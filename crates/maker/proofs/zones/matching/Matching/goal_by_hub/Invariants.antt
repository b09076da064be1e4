use Rattle.std.proofs.Common.{◌≡◌}
use Rattle.maker.specs.Hub.{IsTableWithHubs}
use Rattle.maker.proofs.zones.matching.Matching.goal_by_hub.Given as goal

abbrev pub invariant-loop-k : goal.invariant-loop-k
invariant-loop-k g l = record { matching : IsTableWithHubs l.board l.self; same : l.self.table ≡ l.fn.self.table }
