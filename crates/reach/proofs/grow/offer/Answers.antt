-- The proof goes by cases on whether the row grew. It gets the columns to which a step leads from the other row, so afterwards no step
-- leads from there out of the region (`offered_more` and `offered_same` in `Chains.antt`). If it grew, it joins the worklist, and the
-- cells that it gained outweigh its place there. If it didn't, region and worklist are the same, and so is the work that is left.
use Rattle.reach.specs.Grown.{in_rows}
use Rattle.std.proofs.Common.{◌≡◌, [], length, get_or, arith}
use Rattle.std.proofs.lemmas.List.{get_or_read}
use Rattle.reach.specs.Bits.{HasBit}
use Rattle.reach.proofs.Chains.{offered_more, offered_same}
use Rattle.reach.proofs.grow.offer.Goals as goal

pub returns-then-join-clause-offered : goal.returns-then-join-clause-offered
returns-then-join-clause-offered g c =
    let region = c.args.region.now in
    let row = c.join.new.row in
    let here_is : c.index-region-from.result ≡ get_or region c.args.from [] = get_or_read region c.args.from _ (omega arith) c.index-region-from.is [] in
    offered_more (g.T.StepKind.leads (in_rows c.args.free.now)) region c.args.from c.args.to c.across-way.result row (omega arith) c.across-way.ensures
    (rw here_is at c.join.ensures.bits) (length c.args.free.now) (HasBit c.args.waiting.now.words) (HasBit c.add.new.self.words) c.add.ensures.added

pub returns-else-join-clause-offered : goal.returns-else-join-clause-offered
returns-else-join-clause-offered g c =
    let region = c.args.region.now in
    let row = c.join.new.row in
    let here_is : c.index-region-from.result ≡ get_or region c.args.from [] = get_or_read region c.args.from _ (omega arith) c.index-region-from.is [] in
    offered_same (g.T.StepKind.leads (in_rows c.args.free.now)) region c.args.from c.args.to c.across-way.result row (omega arith) c.across-way.ensures
    (rw here_is at c.join.ensures.bits) (length c.args.free.now) (HasBit c.args.waiting.now.words) (c.join.ensures.none c.if-join.false)
