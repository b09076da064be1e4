use Rattle.std.proofs.Common.{◌++◌}
use Rattle.std.specs.List.{Contains}
use Rattle.cellset.specs.CellSet.{Lacks}
use Rattle.cellset.specs.Members.{AreMembersOf}
use Rattle.cellset.specs.declared.cell.Cell.{Cell}
use Rattle.reach.proofs.rows.Rows.meets.Given as goal

abbrev pub invariant-loop-cell : goal.invariant-loop-cell
invariant-loop-cell g l =
    record {
      can_next : (goal.iterator-loop-cell g).can_next l.cell-iterator;
      is_finite : (goal.iterator-loop-cell g).is_finite l.cell-iterator;
      all : AreMembersOf (g.S.CellSet.extent l.cells) (g.S.CellSet.members l.cells) (l.yielded ++ l.cell-iterator);
      passed : (q : Cell) → Contains l.yielded q → Lacks l.self.members q;
    }
