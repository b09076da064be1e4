use Rattle.std.proofs.Common.{◌≡◌, ◌++◌, vec_capacity}
use Rattle.cellset.specs.Members.{AreMembersOf}
use Rattle.maker.proofs.cells.list_all.Given as goal

abbrev pub invariant-loop-cell : goal.invariant-loop-cell
invariant-loop-cell g l = record {
  can_next : (goal.iterator-loop-cell g).can_next l.cell-iterator;
  is_finite : (goal.iterator-loop-cell g).is_finite l.cell-iterator;
  all : AreMembersOf (g.S.CellSet.extent l.cells) (g.S.CellSet.members l.cells) (l.yielded ++ l.cell-iterator);
  items : l.work.items ≡ l.yielded;
  capacity : vec_capacity l.work ≡ vec_capacity l.fn.work;
}
