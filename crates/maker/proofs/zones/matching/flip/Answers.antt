-- The invariant is `IsFlipping`: the goals from the end of the path up to the freed one have their new boxes already. It holds at the
-- start, where the free goal is freed. Each turn writes one entry, at the index of the freed goal, and frees the goal before it on
-- the path, which an earlier visit is at. So the number of flips that are left falls. At the end the box of the search gets the freed
-- goal, and the table is a matching of one box more.
use Rattle.std.proofs.Common.{◌≡◌, ◌∙◌, ap}
use Rattle.std.proofs.lemmas.List.{length-set}
use Rattle.cellset.specs.Shape.{Extent}
use Rattle.cellset.specs.SortedList.{index}
use Rattle.maker.specs.Search.{cell_visited}
use Rattle.maker.proofs.Flipping.{flipping_start, flipping_next, flipping_falls, flipping_end}
use Rattle.maker.proofs.zones.matching.flip.Goals as goal

pub loop-freed-init : goal.loop-freed-init
loop-freed-init g c =
    record {
      entries = c.requires.entries;
      flipping = flipping_start c.args.board.now c.args.matching.now c.args.start c.args.found.now c.args.end c.requires.end;
    }

pub loop-freed-smaller : goal.loop-freed-smaller
loop-freed-smaller g c =
    let inv = c.loop-freed.invariant in
    flipping_falls c.args.board.now c.args.matching.now c.args.start c.args.found.now c.loop-freed.matching c.loop-freed.freed c.requires.end.path inv.entries
    inv.flipping c.in-Some.via c.in-Some.is

pub loop-freed-preserved : goal.loop-freed-preserved
loop-freed-preserved g c =
    let level = c.args.board.now in
    let queue = c.args.found.now in
    let inv = c.loop-freed.invariant in
    let to : c.index_of-in-Some.result ≡ index level.shape c.loop-freed.freed.cell =
    c.index_of-in-Some.ensures.value ∙ ap (λ (x : Extent). index x c.loop-freed.freed.cell) c.shape-shape.ensures.value in
    let of : c.index_of.result ≡ index level.shape (cell_visited queue c.in-Some.via) =
    c.index_of.ensures.value ∙ ap (λ (x : Extent). index x (cell_visited queue c.in-Some.via)) c.shape-shape.ensures.value in
    record {
      entries = length-set c.loop-freed.matching c.index_of-in-Some.result _ ∙ inv.entries;
      flipping = rw (to, of) (flipping_next level c.args.matching.now c.args.start queue c.loop-freed.matching c.loop-freed.freed c.requires.end.path
          inv.entries inv.flipping c.in-Some.via c.in-Some.is);
    }

pub returns-clause-valid : goal.returns-clause-valid
returns-clause-valid g c =
    let level = c.args.board.now in
    let inv = c.loop-freed.invariant in
    let to : c.index_of-2.result ≡ index level.shape c.loop-freed.freed.cell =
    c.index_of-2.ensures.value ∙ ap (λ (x : Extent). index x c.loop-freed.freed.cell) c.shape-shape.ensures.value in
    rw to (flipping_end level c.args.matching.now c.args.start c.args.found.now c.loop-freed.matching c.loop-freed.freed c.requires.end.path inv.entries
    inv.flipping c.in_default.is)

pub returns-clause-entries : goal.returns-clause-entries
returns-clause-entries g c = length-set c.loop-freed.matching c.index_of-2.result _ ∙ c.loop-freed.invariant.entries
