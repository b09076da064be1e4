use Rattle.std.proofs.Common.{◌+◌, ◌*◌, refl, sym, subst, arith}
use Rattle.cellset.specs.Shape.{Extent}
use Rattle.cellset.specs.Cell.{IsOn, cell_at}
use Rattle.reach.proofs.Carries.{of_word}
use Rattle.reach.proofs.Loads.{stored_more, row_kept, row_added, row_only}
use Rattle.reach.proofs.bit_rows.store_row.Goals as goal

pub insert_row-requires : goal.insert_row-requires
insert_row-requires g c = λ k small is_set.
    subst (λ (shape : Extent). IsOn shape (cell_at (64 * c.loop-part.part + k) c.args.y)) (sym c.loop-part.invariant.extent)
    (c.requires.on (64 * c.loop-part.part + k) (of_word c.args.row.now c.loop-part.part k (64 * c.loop-part.part + k) small refl (record { is = is_set })))

pub loop-part-preserved : goal.loop-part-preserved
loop-part-preserved g c = grind (arith, stored_more, row_kept, row_added, row_only)
