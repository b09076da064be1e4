-- The bytes that were read so far are at the front of the buffer, and the source lost exactly these and didn't fail.
use Rattle.std.proofs.Common.{◌≡◌, ◌≤◌, ◌-◌, length, take}
use Rattle.std.specs.Io.KnownBytes.{Consumes}
use Rattle.devices.proofs.reading.read_whole.Given as goal

abbrev pub invariant-pulls : goal.invariant-pulls
invariant-pulls g l = record {
  within : l.taken ≤ length l.text.items;
  limit : length l.text.items ≤ 33554433;
  bytes : Consumes (g.L.Source.left l.fn.source) (g.L.Source.left l.source) (take l.taken l.text.items);
  failures : g.L.Source.failures l.source ≡ g.L.Source.failures l.fn.source;
}

abbrev pub decreases-pulls : goal.decreases-pulls
decreases-pulls g l = 33554433 - l.taken
