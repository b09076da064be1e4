use Rattle.std.proofs.Common.{ℕ, ◌<◌}
use Rattle.certificates.specs.CellLists.{cell_no}
use Rattle.closure.specs.{GroupPushes.CoversFrom, Groups.list_of, Groups.position_at}
use Rattle.closure.proofs.pushes.are_pushes_hinted.Given as goal

abbrev pub invariant-loop-number : goal.invariant-loop-number
invariant-loop-number g l = record {
  covered : (i : ℕ) → i < l.number → CoversFrom l.tables.board.now (list_of l.tables.groups) (position_at l.tables.board.now l.tables.groups l.group)
      (cell_no l.boxes i);
}
