use Rattle.std.proofs.Common.{ℕ, ◌∙◌, arith}
use Rattle.std.proofs.Math.ListN.{length-set, replicate}
use Rattle.reach.proofs.Lines.{none_in_zeros}
use Rattle.reach.proofs.Loads.{done_more, done_all}
use Rattle.reach.proofs.bit_rows.clear.Goals as goal

pub loop-y-preserved : goal.loop-y-preserved
loop-y-preserved g c =
    let rows = c.loop-y.rows in
    record {
      rows = length-set rows c.loop-y.y _ ∙ c.loop-y.invariant.rows;
      cells = done_more _ _ c.loop-y.y rows (replicate {A = ℕ} g.row.N 0) (omega arith) c.loop-y.invariant.cells
          (λ k. (none_in_zeros g.row.N k, λ no. absurd no));
    }

pub returns-clause-none : goal.returns-clause-none
returns-clause-none g c = λ q h. (done_all _ _ c.loop-y.y c.loop-y.rows (omega arith) (λ _ no. absurd no) c.loop-y.invariant.cells q).0 h
