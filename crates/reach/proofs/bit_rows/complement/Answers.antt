use Rattle.std.proofs.Common.{◌∙◌, arith}
use Rattle.std.proofs.Math.ListN.{length-set}
use Rattle.cellset.specs.Cell.{cell_at}
use Rattle.reach.proofs.Loads.{done_more, done_all}
use Rattle.reach.proofs.bit_rows.complement.Goals as goal

pub loop-y-preserved : goal.loop-y-preserved
loop-y-preserved g c =
    let y = c.loop-y.y in
    let rows = c.loop-y.rows in
    record {
      rows = length-set rows y c.without.result ∙ c.loop-y.invariant.rows;
      cells = done_more _ _ y rows c.without.result (omega arith) c.loop-y.invariant.cells (λ k.
          let old = c.loop-y.invariant.cells.rest (cell_at k y) (omega arith) in (
            (λ h. let (on, none) = (c.without.ensures k).0 h in (omega arith, omega arith, on, λ was. none (old.1 was))),
            (λ (_, _, on, none). (c.without.ensures k).1 (on, λ here. none (old.0 here))),
          ));
    }

pub returns-clause-cells : goal.returns-clause-cells
returns-clause-cells g c = grind (arith, done_all)
