use Rattle.std.proofs.Common.{◌∙◌, ap}
use Rattle.cellset.specs.Cell.{cell_at}
use Rattle.cellset.proofs.ReadingOrder.{next_on, cell_on}
use Rattle.library_tests.proofs.pictures.marked.Goals as goal
use Rattle.library_tests.proofs.pictures.marked.Goals.{then-byte-mark, else-byte-mark}

pub loop-byte-init : goal.loop-byte-init
loop-byte-init g c = (c.in_ok-set.ensures.extent, cell_on c.args.shape (cell_at 1 1) c.cell-at.result c.cell-at.ensures)

pub loop-byte-preserved : goal.loop-byte-preserved
loop-byte-preserved g c = (
  elim c.if-byte-mark.branch [
    | then-byte-mark w ↦ ap g.S.CellSet.extent w.set-is ∙ (w.insert.ensures.extent ∙ c.loop-byte.invariant.0)
    | else-byte-mark w ↦ ap g.S.CellSet.extent w.set-is ∙ c.loop-byte.invariant.0
  ],
  next_on c.args.shape c.in-Some.cell c.next-at.result c.next-at.ensures,
)
