use Rattle.std.proofs.Common.{◌++◌}
use Rattle.std.specs.List.{Contains}
use Rattle.cellset.specs.CellSet.{Has}
use Rattle.cellset.specs.Members.{AreMembersOf}
use Rattle.cellset.specs.declared.cell.Cell.{Cell}
use Rattle.maker.proofs.zones.hub.have_all.Given as goal

abbrev pub invariant-loop-cell : goal.invariant-loop-cell
invariant-loop-cell g l =
    record {
      can_next : (goal.iterator-loop-cell g).can_next l.cell-iterator;
      is_finite : (goal.iterator-loop-cell g).is_finite l.cell-iterator;
      all : AreMembersOf (g.S.CellSet.extent l.cells) (g.S.CellSet.members l.cells) (l.yielded ++ l.cell-iterator);
      passed : (q : Cell) → Contains l.yielded q → Has l.rows.members q;
    }
