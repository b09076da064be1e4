use Rattle.std.proofs.Common.{inr}
use Rattle.std.specs.List.{Contains}
use Rattle.cellset.specs.Cell.{neighbor}
use Rattle.cellset.specs.CellSet.{Has}
use Rattle.cellset.specs.declared.dir.Dir.TheVariants.{L, U, R, D}
use Rattle.cellset.proofs.Truth.{either}
use Rattle.maker.proofs.freezing.wait_around.Goals as goal

pub returns-clause-waiting : goal.returns-clause-waiting
returns-clause-waiting g c = λ q h.
    c.wait_toward-4.ensures.waiting q (c.wait_toward-3.ensures.waiting q (c.wait_toward-2.ensures.waiting q (c.wait_toward.ensures.waiting q h)))

pub returns-clause-listed : goal.returns-clause-listed
returns-clause-listed g c = λ q h.
    either (c.wait_toward-4.ensures.listed q h)
    (λ last. either (c.wait_toward-3.ensures.listed q last)
    (λ third. either (c.wait_toward-2.ensures.listed q third) (c.wait_toward.ensures.listed q) (λ new. inr new))
    (λ new. inr new))
    (λ new. inr new)

pub returns-clause-around : goal.returns-clause-around
returns-clause-around g c = λ dir.
    let third = c.wait_toward-3.ensures.waiting in
    let last = c.wait_toward-4.ensures.waiting in
    elim dir as (λ d. Has (g.S.CellSet.members c.args.frozen.now) (neighbor c.args.cell d) → Contains c.wait_toward-4.new.work.items (neighbor c.args.cell d)) [
      | L ↦ λ has. last _ (third _ (c.wait_toward-2.ensures.waiting _ (c.wait_toward.ensures.here has)))
      | U ↦ λ has. last _ (third _ (c.wait_toward-2.ensures.here has))
      | R ↦ λ has. last _ (c.wait_toward-3.ensures.here has)
      | D ↦ c.wait_toward-4.ensures.here
    ]
