-- There are four ways out. If a box is on a dead square, the list is the dead squares alone. If a frozen box is off the goals, it ends with
-- the frozen boxes. Otherwise the level has no list, and there is a least zone, or none.
use Rattle.std.proofs.Common.{◌≡◌, refl, sym, ◌∙◌}
use Rattle.std.proofs.lemmas.Option.{MatchOption-at_some, MatchOption-at_none}
use Rattle.maker.specs.Zones.{IsLeastZone, SomeZoneRefutes}
use Rattle.maker.proofs.MadeLists.{of_dead, of_frozen, of_none}
use Rattle.maker.proofs.OneZone.{least_zones_refute}
use Rattle.maker.proofs.making.find.Goals as goal

pub returns-then-meets-clause-some : goal.returns-then-meets-clause-some
returns-then-meets-clause-some g c =
    rw c.new.ensures.items (of_dead c.args.board.now c.in_ok-dead.dead.members c.in_ok-dead.ensures.exact (g.S.CellSet.members c.boxes.result.now)
    c.boxes.ensures.members c.in_ok-dead-2.dead.items c.in_ok-dead-2.ensures c.if-meets.ensures)

pub returns-then-not-is_subset-clause-some : goal.returns-then-not-is_subset-clause-some
returns-then-not-is_subset-clause-some g c =
    let members = g.S.CellSet.members in
    of_frozen c.args.board.now c.in_ok-dead.dead.members c.in_ok-dead.ensures.exact (members c.boxes.result.now) c.boxes.ensures.members c.if-meets.ensures
    (members c.in_ok-held.held) c.in_ok-held.ensures.exact (members c.goals.result.now) c.goals.ensures.members (sym c.is_subset.ensures ∙ c.if-not-is_subset.true)
    c.in_ok-dead-3.dead.items c.in_ok-frozen.frozen.items c.in_ok-dead-3.ensures c.in_ok-frozen.ensures

pub returns-in_default-clause-none : goal.returns-in_default-clause-none
returns-in_default-clause-none g c = record {
  no_list =
      let members = g.S.CellSet.members in
      of_none c.args.board.now c.in_ok-dead.dead.members c.in_ok-dead.ensures.exact (members c.boxes.result.now) c.boxes.ensures.members c.if-meets.ensures
      (members c.in_ok-held.held) c.in_ok-held.ensures.exact (members c.goals.result.now) c.goals.ensures.members
      (sym c.is_subset.ensures ∙ c.if-not-is_subset.false);
  no_zone = MatchOption-at_none (SomeZoneRefutes c.args.board.now → ⊥) _ c.in_default.is c.in_ok-zone.ensures.exact;
}

pub coords_in-requires-2 : goal.coords_in-requires-2
coords_in-requires-2 g c =
    let level = c.args.board.now in
    let least = MatchOption-at_some _ (λ z. IsLeastZone level z.members) c.in-Some.zone c.in-Some.is c.in_ok-zone.ensures.exact in
    let extent = MatchOption-at_some _ (λ z. z.extent ≡ level.shape) c.in-Some.zone c.in-Some.is c.in_ok-zone.ensures.extent in
    record { on = λ q h. rw extent ((least_zones_refute level _ c.boxes.ensures.formed least).board q h) }

pub returns-clause-some : goal.returns-clause-some
returns-clause-some g c = record {
  no_list =
      let members = g.S.CellSet.members in
      of_none c.args.board.now c.in_ok-dead.dead.members c.in_ok-dead.ensures.exact (members c.boxes.result.now) c.boxes.ensures.members c.if-meets.ensures
      (members c.in_ok-held.held) c.in_ok-held.ensures.exact (members c.goals.result.now) c.goals.ensures.members
      (sym c.is_subset.ensures ∙ c.if-not-is_subset.false);
  zone = record {
    zone = c.in-Some.zone.members;
    least = MatchOption-at_some _ (λ z. IsLeastZone c.args.board.now z.members) c.in-Some.zone c.in-Some.is c.in_ok-zone.ensures.exact;
    cells = c.in_ok-coords_in.ensures;
    number = refl;
  };
}
