use Rattle.maker.specs.Search.{Pairs, cell_visited}
use Rattle.maker.proofs.Searches.{next_matched, read_pair}
use Rattle.maker.proofs.zones.search.Search.visit_matched.Given.{Over}
use Rattle.maker.proofs.zones.search.Search.visit_matched.Goals.{In-Some}
use Rattle.maker.proofs.zones.search.Search.visit_matched.Goals as goal

-- the goal is matched to the box
the_pair : (g : Over) (c : In-Some g) → Pairs c.args.board.now.shape c.args.matching.now.table.items
    (cell_visited c.args.self.now.found.items c.args.at) c.in-Some.cell
the_pair g c =
    let s = c.args.self.now in
    let on = (c.requires.listing.floor _ (c.requires.listing.visited c.args.at c.requires.at)).0 in
    let entries = c.requires.matching.entries in
    let within = c.index_of.ensures.within in
    read_pair c.args.board.now c.shape.result c.args.matching.now.table.items s.found.items c.args.at c.index.result.now c.index_of.result c.index-2.result.now
    c.index.ensures c.requires.at c.shape.ensures.value c.index_of.ensures.value (rw (entries, ← c.shape.ensures.value) within) c.index-2.ensures on
    c.in-Some.cell c.in-Some.is

pub visit_reach-requires-clause-floor : goal.visit_reach-requires-clause-floor
visit_reach-requires-clause-floor g c = c.requires.boxes _ _ (the_pair g (goal.at.visit_reach-requires-clause-floor g c).In-Some)

pub returns-in-Some-clause-search : goal.returns-in-Some-clause-search
returns-in-Some-clause-search g c = λ start is_search.
    let pair = the_pair g (goal.at.returns-in-Some-clause-search g c).In-Some in
    c.visit_reach.ensures.search c.args.matching.now.table.items start is_search
    (next_matched c.args.board.now c.args.matching.now.table.items start c.args.self.now c.args.at c.in-Some.cell c.requires.listing is_search c.requires.at
    pair)
