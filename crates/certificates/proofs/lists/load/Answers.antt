use Rattle.std.proofs.Common.{sym, ◌∙◌}
use Rattle.certificates.proofs.CellLists.{in_list, next_in, no_cell}
use Rattle.certificates.proofs.lists.load.Goals as goal

pub insert-requires : goal.insert-requires
insert-requires g c = rw c.loop-cell.invariant.extent (c.requires _ (in_list c.args.cells.now c.loop-cell.cell-index no_cell c.loop-cell-test.true))

pub loop-cell-preserved : goal.loop-cell-preserved
loop-cell-preserved g c = record {
  extent = c.insert.ensures.extent ∙ c.loop-cell.invariant.extent;
  members = rw (c.insert.ensures.members, c.loop-cell.invariant.members) (sym (next_in _ _ c.loop-cell-test.true));
}
