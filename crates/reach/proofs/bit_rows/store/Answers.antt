use Rattle.std.proofs.Common.{[], ◌∙◌, arith}
use Rattle.std.proofs.lemmas.List.{get_or_read}
use Rattle.cellset.specs.Cell.{cell_at}
use Rattle.reach.proofs.Written.{to_row, of_row}
use Rattle.reach.proofs.bit_rows.store.Goals as goal

pub store_row-requires : goal.store_row-requires
store_row-requires g c = (
  omega arith,
  (
    c.requires.few,
    λ k h. rw c.loop-y.invariant.extent (c.requires.on (cell_at k c.loop-y.y) (rw (get_or_read c.args.rows.now c.loop-y.y _ (omega arith) c.index-rows-y.is []) at h)),
  ),
)

pub loop-y-preserved : goal.loop-y-preserved
loop-y-preserved g c =
    let read = get_or_read c.args.rows.now c.loop-y.y _ (omega arith) c.index-rows-y.is [] in
    let stored = rw read at c.store_row.ensures.members in
    record {
      extent = c.store_row.ensures.extent ∙ c.loop-y.invariant.extent;
      members = λ q. let before = c.loop-y.invariant.members q in let now = stored q in grind (arith, to_row, of_row);
    }
