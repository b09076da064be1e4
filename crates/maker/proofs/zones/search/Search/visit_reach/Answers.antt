-- If a push leads on, or the box is on a goal that is left, the flood adds what chains of pushes reach from the visited cells and the box, and
-- the goals among the new cells are listed. Otherwise the cell of the box is all that chains of pushes add.
use Rattle.std.proofs.Common.{sym, ◌∙◌}
use Rattle.std.specs.Prelude.{◌↔◌}
use Rattle.std.proofs.lemmas.Bool.{false≢true}
use Rattle.cellset.specs.CellSet.{Has, Lacks}
use Rattle.cellset.specs.declared.cell.Cell.{Cell}
use Rattle.cellset.proofs.Members.{lacks_where, not_both}
use Rattle.cellset.proofs.Truth.{either}
use Rattle.reach.specs.Reached.{Reached, at_seed, PushesTo}
use Rattle.maker.specs.Search.{IsLonger}
use Rattle.maker.proofs.Searches.{not_grown, not_longer, reach_listing, reach_further, reach_here, reach_search}
use Rattle.maker.proofs.zones.search.Search.visit_reach.Given.{Over}
use Rattle.maker.proofs.zones.search.Search.visit_reach.Goals.{After-list_goals}
use Rattle.maker.proofs.zones.search.Search.visit_reach.Goals as goal

module _ (g : Over) (c : After-list_goals g) where
  grown : (q : Cell) → Has c.list_goals.new.self.visited.members q ↔ Reached (PushesTo (Has c.args.board.now.room)) (Has c.insert.new.self.members) q
  grown = rw (c.list_goals.ensures.same.0) (rw c.room_rows-then-leads_on.ensures.members at c.grow.ensures.exact)

  unseen : (q : Cell) → Has c.list_goals.new.self.left.members q → Lacks c.list_goals.new.self.visited.members q
  unseen q h = lacks_where c.list_goals.new.self.visited.members q (λ seen. c.list_goals.ensures.none q (rw (c.list_goals.ensures.same.0) at seen) h)

  longer : IsLonger c.list_goals.new.self.visited.members c.args.self.now.left.members c.args.via c.args.self.now.found.items c.list_goals.new.self.found.items
  longer = rw (c.list_goals.ensures.same.0) c.list_goals.ensures.longer

pub returns-then-leads_on-clause-listing : goal.returns-then-leads_on-clause-listing
returns-then-leads_on-clause-listing g c =
    reach_listing c.args.board.now c.room_rows.ensures.formed c.args.self.now c.list_goals.new.self c.args.cell c.args.via (Has c.insert.new.self.members)
    c.insert.ensures.members (grown g c) c.requires.listing c.requires.floor (c.list_goals.ensures.listed _ c.requires.listing.listed) (longer g c) (unseen g c)

pub returns-then-leads_on-clause-further : goal.returns-then-leads_on-clause-further
returns-then-leads_on-clause-further g c =
    reach_further c.args.board.now c.room_rows.ensures.formed c.args.self.now c.list_goals.new.self c.args.cell c.args.via (Has c.insert.new.self.members)
    c.insert.ensures.members (grown g c) c.requires.listing c.requires.floor (c.list_goals.ensures.listed _ c.requires.listing.listed) (longer g c) (unseen g c)

pub returns-then-leads_on-clause-here : goal.returns-then-leads_on-clause-here
returns-then-leads_on-clause-here g c =
    reach_here c.args.board.now c.room_rows.ensures.formed c.args.self.now c.list_goals.new.self c.args.cell c.args.via (Has c.insert.new.self.members)
    c.insert.ensures.members (grown g c) c.requires.listing c.requires.floor (c.list_goals.ensures.listed _ c.requires.listing.listed) (longer g c) (unseen g c)

pub returns-then-leads_on-clause-search : goal.returns-then-leads_on-clause-search
returns-then-leads_on-clause-search g c =
    reach_search c.args.board.now c.room_rows.ensures.formed c.args.self.now c.list_goals.new.self c.args.cell c.args.via (Has c.insert.new.self.members)
    c.insert.ensures.members (grown g c) c.requires.listing c.requires.floor (c.list_goals.ensures.listed _ c.requires.listing.listed) (longer g c) (unseen g c)

pub returns-else-has-clause-listing : goal.returns-else-has-clause-listing
returns-else-has-clause-listing g c =
    let level = c.args.board.now in
    let old = c.args.self.now in
    let listing = c.requires.listing in
    let members = c.insert.ensures.members in
    let here : (q : Cell) → PushesTo (Has level.room) c.args.cell q → Has old.visited.members q =
    rw c.room_rows.ensures.members at (c.leads_on-leads_on.ensures c.if-leads_on.false) in
    reach_listing level c.room_rows.ensures.formed old _ c.args.cell c.args.via (Has c.insert.new.self.members) members
    (λ q. (
      (λ h. at_seed h),
      (λ reached. (members q).1 (not_grown level c.room_rows.ensures.formed old.visited.members listing.closed c.args.cell (Has c.insert.new.self.members)
          (λ q h. (members q).0 h) here q reached)),
    ))
    listing c.requires.floor listing.listed (not_longer _ _ _ _)
    (λ q left. lacks_where c.insert.new.self.members q (λ seen. either ((members q).0 seen)
    (λ was. not_both old.visited.members q was (listing.unseen q left))
    (λ e. false≢true (sym c.if-has.false ∙ c.has.ensures.1 (rw e at left)))))
