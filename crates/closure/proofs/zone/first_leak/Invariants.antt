use Rattle.std.{proofs.Common.◌++◌, specs.List.Contains}
use Rattle.cellset.specs.{Members.AreMembersOf, declared.cell.Cell.Cell, declared.dir.Dir.Dir}
use Rattle.certificates.specs.Zone.{Leaks}
use Rattle.closure.proofs.zone.first_leak.Given as goal

abbrev pub invariant-loop-cell : goal.invariant-loop-cell
invariant-loop-cell g l =
    let zone = g.S.CellSet.members l.zone in
    record {
      can_next : (goal.iterator-loop-cell g).can_next l.cell-iterator;
      is_finite : (goal.iterator-loop-cell g).is_finite l.cell-iterator;
      all : AreMembersOf l.board.shape zone (l.yielded ++ l.cell-iterator);
      passed : (q : Cell) → Contains l.yielded q → (d : Dir) → Leaks l.board zone q d → ⊥;
    }
