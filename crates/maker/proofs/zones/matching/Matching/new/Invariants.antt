use Rattle.std.proofs.Common.{◌-◌, ◌<◌, ◌≤◌, length, vec_capacity}
use Rattle.std.specs.List.{All}
use Rattle.maker.specs.Hub.{IsHub}
use Rattle.maker.proofs.zones.matching.Matching.new.Given as goal

abbrev pub invariant-loop-hubs : goal.invariant-loop-hubs
invariant-loop-hubs g l = record {
  hubs : All (IsHub l.board) l.hubs.items;
  some : 0 < length l.hubs.items;
  space : 4 ≤ vec_capacity l.hubs;
}

abbrev pub decreases-loop-hubs : goal.decreases-loop-hubs
decreases-loop-hubs g l = 4 - length l.hubs.items
