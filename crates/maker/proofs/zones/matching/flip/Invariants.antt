use Rattle.maker.specs.Search.{HasEntries}
use Rattle.maker.proofs.Flipping.{IsFlipping, flips_left}
use Rattle.maker.proofs.zones.matching.flip.Given as goal

abbrev pub invariant-loop-freed : goal.invariant-loop-freed
invariant-loop-freed g l = record {
  entries : HasEntries l.board.shape l.matching;
  flipping : IsFlipping l.board l.fn.matching l.start l.found l.matching l.freed;
}

abbrev pub decreases-loop-freed : goal.decreases-loop-freed
decreases-loop-freed g l = flips_left l.freed.via
