use Rattle.std.proofs.Common.{◌+◌, ◌-◌, drop, refl, arith, length-take}
use Rattle.play.proofs.Sums.{led}
use Rattle.play.proofs.Replays.{continues_up}
use Rattle.play.proofs.walks.walk_masked.Goals as goal

pub chunks-preserved : goal.chunks-preserved
chunks-preserved c =
    let i = c.chunks.at in
    let text = c.args.text.now in
    let mailbox = c.args.mailbox.now in
    let run = c.args.run.now in
    let here = led run c.chunks.player c.chunks.moves in
    let there = led run c.in-Some.next (c.chunks.moves + c.in-Some.steps) in
    let old = c.chunks.invariant.moves in
    let few = c.in-Some.ensures.0 in
    let short = length-take (i + 8 - i) (drop i text) in
    record {
      within = omega arith;
      moves = omega arith;
      continues = continues_up mailbox mailbox mailbox run here there text i (i + 8) (omega arith) c.chunks.invariant.continues (c.in-Some.ensures.1 here refl);
    }
