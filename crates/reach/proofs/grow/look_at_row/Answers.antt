-- The row grows by the steps within it, and then by the steps from it to the rows above and below. Together these are all steps from the row,
-- so it is closed again, and a step reaches each cell that was added (`look`).
use Rattle.reach.specs.BitRows.{InRows}
use Rattle.reach.specs.Grown.{in_rows}
use Rattle.std.proofs.Common.{length, arith}
use Rattle.reach.proofs.Chains.{look, row_filled, reached_on}
use Rattle.reach.proofs.grow.look_at_row.Goals as goal

pub returns-clause-looked : goal.returns-clause-looked
returns-clause-looked g c =
    let leads = g.T.StepKind.leads (in_rows c.args.free.now) in
    look leads c.args.row _ (length c.args.free.now) _ _ _ _ _ _ _ c.along.ensures.beside c.along.ensures.ends c.requires.row
    (λ y e. omega arith) (λ e. omega arith)
    (row_filled leads c.args.region.now c.args.row c.along.new.row (omega arith) c.along.ensures.kept c.along.ensures.sound c.along.ensures.closed)
    c.offer.ensures.offered c.offer-2.ensures.offered

pub returns-clause-on : goal.returns-clause-on
returns-clause-on g c = λ shape free region q h.
    reached_on shape (g.T.StepKind.leads (in_rows c.args.free.now)) (InRows c.args.region.now) (λ a b step. c.along.ensures.on shape a b free step) region q
    ((returns-clause-looked g c).sound q h)
