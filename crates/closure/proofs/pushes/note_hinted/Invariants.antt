use Rattle.closure.specs.GroupPushes.{AreNoted}
use Rattle.closure.proofs.pushes.note_hinted.Given as goal

abbrev pub invariant-loop-group : goal.invariant-loop-group
invariant-loop-group g l = record { covered : AreNoted l.tables.board.now l.tables.groups l.covered.items }
