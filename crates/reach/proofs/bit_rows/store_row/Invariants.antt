use Rattle.std.proofs.Common.{◌≡◌}
use Rattle.reach.proofs.Loads.{IsStored}
use Rattle.reach.proofs.bit_rows.store_row.Given as goal

abbrev pub invariant-loop-part : goal.invariant-loop-part
invariant-loop-part g l = record {
  extent : g.S.CellSet.extent l.into ≡ g.S.CellSet.extent l.fn.into;
  stored : IsStored (g.S.CellSet.members l.fn.into) (g.S.CellSet.members l.into) l.row l.y l.part;
}
