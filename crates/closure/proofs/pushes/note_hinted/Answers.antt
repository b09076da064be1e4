-- The invariant says that the notes are right. A turn writes the note of one group, which `are_pushes_hinted` decides (`noted_more` in
-- `GroupPushes.antt`).
use Rattle.std.proofs.Common.{arith}
use Rattle.closure.proofs.GroupPushes.{noted_more}
use Rattle.closure.proofs.pushes.note_hinted.Goals as goal

pub loop-group-preserved : goal.loop-group-preserved
loop-group-preserved g c =
    let test = c.loop-group-test.true in
    let count = c.len-group-end.ensures in
    record {
      covered = noted_more c.args.tables.now.board.now c.args.tables.now.groups c.loop-group.covered.items c.loop-group.invariant.covered c.loop-group.group
          c.are_pushes_hinted.result (omega arith) c.are_pushes_hinted.ensures;
    }
