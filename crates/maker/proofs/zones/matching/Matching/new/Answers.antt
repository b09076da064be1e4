use Rattle.std.proofs.Common.{[], ◌∷◌, sym, ap, length, arith}
use Rattle.std.proofs.Math.ListN.{length-append}
use Rattle.std.proofs.lemmas.List.Elements.{All-push}
use Rattle.maker.specs.Hub.{IsHub}
use Rattle.maker.proofs.zones.matching.Matching.new.Goals as goal

pub loop-hubs-preserved : goal.loop-hubs-preserved
loop-hubs-preserved g c =
    let inv = c.loop-hubs.invariant in
    let items = c.push_reserved-in-loop-hubs.ensures.items in
    record {
      hubs = rw items (All-push (IsHub c.args.board.now) c.loop-hubs.hubs.items c.in_ok-new.field-0 inv.hubs (c.in_ok-new.ensures c.args.board.now (sym c.shape-shape.ensures.value)));
      some = let longer = ap length items in let one = length-append c.loop-hubs.hubs.items (c.in_ok-new.field-0 ∷ []) in omega arith;
      space = rw c.push_reserved-in-loop-hubs.ensures.capacity inv.space;
    }
