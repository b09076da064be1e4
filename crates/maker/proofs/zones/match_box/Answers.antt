-- There are three ways out. A free goal that a hub has can be matched to the box at once. If the search finds no path, its Hall violator is
-- passed on. Otherwise `flip` matches one box more.
use Rattle.std.proofs.Common.{◌≡◌, sym, ◌∙◌, ap}
use Rattle.cellset.specs.Shape.{Extent}
use Rattle.cellset.specs.SortedList.{index}
use Rattle.cellset.proofs.BitSets.{put_back}
use Rattle.maker.proofs.Flipping.{free_matched}
use Rattle.maker.proofs.zones.match_box.Goals as goal

pub returns-in-Some-clause-exact : goal.returns-in-Some-clause-exact
returns-in-Some-clause-exact g c =
    let level = c.args.board.now in
    let (free, near) = c.in-Some.ensures.exact in
    let at : c.index_of.result ≡ index level.shape c.in-Some.goal =
    c.index_of.ensures.value ∙ ap (λ (x : Extent). index x c.in-Some.goal) c.shape-shape.ensures.value in
    rw (c.goal_by_hub.ensures.same, at) (free_matched level c.args.matching.now.table.items c.args.start c.in-Some.goal c.requires.matching.entries free near)

pub find_free_goal-requires-clause-valid : goal.find_free_goal-requires-clause-valid
find_free_goal-requires-clause-valid g c = rw c.goal_by_hub.ensures.same c.requires.valid

pub returns-clause-exact : goal.returns-clause-exact
returns-clause-exact g c =
    let level = c.args.board.now in
    let hubs = c.move_oldest_hub.new.self in
    let former : hubs.table ≡ c.args.matching.now.table =
    c.move_oldest_hub.ensures.same ∙ (c.find_free_goal.ensures.same ∙ c.goal_by_hub.ensures.same) in
    let whole = put_back hubs.table.len hubs.table.items c.flip.new.matching hubs.table.ok.0
    (c.flip.ensures.entries ∙ sym c.move_oldest_hub.ensures.matching.entries) in
    let value = c.deref_mut.ensures.value in
    rw whole (rw (value, former) at c.flip.ensures.valid)
