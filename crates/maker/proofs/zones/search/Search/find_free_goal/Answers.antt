-- The first box and its reach are visited first. Then the invariant says that the state is that of a search, that each found goal is matched, and
-- that the boxes of the goals before `at` are visited. The list is no longer than there are goals, so the loop ends. Then the box of each found
-- goal is visited, and the visited cells are a Hall violator.
use Rattle.std.proofs.Common.{◌∙◌, arith}
use Rattle.maker.specs.Search.{IsSearch}
use Rattle.maker.proofs.Searches.{boxes_more, listing_first, next_first, paired_more, search_first, search_traced, search_violator}
use Rattle.maker.proofs.zones.search.Search.find_free_goal.Given.{Over}
use Rattle.maker.proofs.zones.search.Search.find_free_goal.Goals.{After-visit_reach}
use Rattle.maker.proofs.zones.search.Search.find_free_goal.Goals as goal

pub visit_reach-requires-clause-listing : goal.visit_reach-requires-clause-listing
visit_reach-requires-clause-listing g c =
    listing_first c.args.board.now _ c.clear.ensures.members c.clear-2.ensures.items (c.copy_from.ensures.members ∙ c.requires.ready.goals)

pub visit_reach-requires-clause-floor : goal.visit_reach-requires-clause-floor
visit_reach-requires-clause-floor g c = c.requires.formed.boxes c.args.start c.requires.start

-- the state after the first box and its reach are visited is that of a search
first_reach : (g : Over) (c : After-visit_reach g) → IsSearch c.args.board.now c.args.matching.now.table.items c.args.start c.visit_reach.new.self
first_reach g c = c.visit_reach.ensures.search c.args.matching.now.table.items c.args.start
    (search_first c.args.board.now _ c.clear.ensures.members c.clear-2.ensures.items (c.copy_from.ensures.members ∙ c.requires.ready.goals)
    c.args.matching.now.table.items c.args.start)
    (next_first c.args.board.now c.args.matching.now.table.items c.args.start _)

pub returns-in-Some-clause-exact : goal.returns-in-Some-clause-exact
returns-in-Some-clause-exact g c =
    let is_search = first_reach g (goal.at.returns-in-Some-clause-exact g c).After-visit_reach in
    record {
      path = search_traced c.args.board.now c.args.matching.now.table.items c.args.start c.visit_reach.new.self c.visit_reach.ensures.listing is_search;
      free = c.in-Some.ensures.exact;
      traced = c.in-Some.ensures.traced c.args.start is_search;
    }

pub loop-at-init : goal.loop-at-init
loop-at-init g c = record {
  ready = c.visit_reach.ensures.ready;
  listing = c.visit_reach.ensures.listing;
  is_search = first_reach g (goal.at.loop-at-init g c).After-visit_reach;
  begins = c.visit_reach.ensures.here;
  matching = c.end_of_path.ensures.matching;
  same = c.end_of_path.ensures.same;
  paired = λ i h. c.in_default.ensures.exact i (omega arith) h;
  boxes = λ i b below less pair. absurd (omega arith);
}

pub visit_matched-requires-clause-boxes : goal.visit_matched-requires-clause-boxes
visit_matched-requires-clause-boxes g c = λ goal b pair.
    let (matched, valid) = c.requires.valid in
    c.requires.formed.boxes b (valid.boxes b (valid.pairs.box goal b (rw c.loop-at.invariant.same at pair)))

pub visit_matched-requires-clause-paired : goal.visit_matched-requires-clause-paired
visit_matched-requires-clause-paired g c = rw c.loop-at.invariant.same (c.loop-at.invariant.paired c.loop-at.at (omega arith))

pub returns-in-Some-end_of_path-clause-exact : goal.returns-in-Some-end_of_path-clause-exact
returns-in-Some-end_of_path-clause-exact g c =
    let inv = c.loop-at.invariant in
    let is_search = c.visit_matched.ensures.search c.args.start (rw inv.same inv.is_search) in
    record {
      path = search_traced c.args.board.now c.args.matching.now.table.items c.args.start c.visit_matched.new.self c.visit_matched.ensures.listing
          (rw inv.same at is_search);
      free = rw inv.same at c.in-Some-end_of_path.ensures.exact;
      traced = rw inv.same at (c.in-Some-end_of_path.ensures.traced c.args.start is_search);
    }

pub loop-at-preserved : goal.loop-at-preserved
loop-at-preserved g c =
    let level = c.args.board.now in
    let table = c.args.matching.now.table.items in
    let inv = c.loop-at.invariant in
    let further = c.visit_matched.ensures.further in
    let paired = rw inv.same at c.in_default-end_of_path.ensures.exact in
    record {
      ready = c.visit_matched.ensures.ready;
      listing = c.visit_matched.ensures.listing;
      is_search = rw inv.same at (c.visit_matched.ensures.search c.args.start (rw inv.same inv.is_search));
      begins = further.kept c.args.start inv.begins;
      matching = c.end_of_path-in-loop-at.ensures.matching;
      same = c.end_of_path-in-loop-at.ensures.same ∙ inv.same;
      paired = paired_more level table c.loop-at.self c.visit_matched.new.self further inv.paired (λ i late h. paired i (omega arith) h);
      boxes = boxes_more level table c.loop-at.self c.visit_matched.new.self c.loop-at.at (omega arith) further inv.boxes
          (rw inv.same at c.visit_matched.ensures.here);
    }

pub returns-clause-exact : goal.returns-clause-exact
returns-clause-exact g c =
    let (matched, valid) = c.requires.valid in
    let inv = c.loop-at.invariant in
    search_violator c.args.board.now c.requires.formed c.args.matching.now.table.items c.args.start c.loop-at.self inv.listing inv.is_search inv.begins
    (λ goal b pair. valid.pairs.goal goal b pair) inv.paired (λ i b less pair. inv.boxes i b (omega arith) less pair)
