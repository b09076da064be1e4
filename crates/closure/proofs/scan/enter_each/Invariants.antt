use Rattle.std.proofs.Common.{◌≡◌, ◌≤◌, length, vec_capacity}
use Rattle.closure.specs.Arena.{list_in}
use Rattle.closure.specs.Scan.{AreEntries}
use Rattle.closure.proofs.scan.enter_each.Given as goal

abbrev pub invariant-loop-line : goal.invariant-loop-line
invariant-loop-line g l = record {
  free : l.flood.free.extent ≡ l.board.shape;
  region : l.flood.region.extent ≡ l.board.shape;
  roomy : length l.arena.lines.items ≤ vec_capacity l.entries;
  entries : AreEntries l.board (list_in l.arena) l.line l.entries.items;
}
