use Rattle.std.proofs.Common.{◌≡◌, [], get_or, ◌∙◌, arith}
use Rattle.std.proofs.Math.ListN.{length-set}
use Rattle.std.proofs.lemmas.List.{get_or_read}
use Rattle.cellset.specs.Cell.{cell_at}
use Rattle.reach.proofs.Loads.{done_more}
use Rattle.reach.proofs.bit_rows.subtract.Goals as goal

pub loop-y-preserved : goal.loop-y-preserved
loop-y-preserved g c =
    let y = c.loop-y.y in
    let rows = c.loop-y.rows in
    let read : c.index-other-y.result ≡ get_or c.args.other.now y [] = get_or_read c.args.other.now y _ (omega arith) c.index-other-y.is [] in
    record {
      rows = length-set rows y c.without.result ∙ c.loop-y.invariant.rows;
      cells = done_more _ _ y rows c.without.result (omega arith) c.loop-y.invariant.cells (λ k.
          let old = c.loop-y.invariant.cells.rest (cell_at k y) (omega arith) in
          grind arith);
    }
