-- The component of the player of an open push has the players of all pushes that go to those here (`Settled.antt`). The groups that the search has
-- passed leave as much open as before, since no push is added.
use Rattle.std.proofs.Common.{sym, ◌∙◌, inl, arith}
use Rattle.std.specs.List.{Contains}
use Rattle.cellset.{proofs.Truth.either}
use Rattle.certificates.specs.CellLists.{cells_in}
use Rattle.closure.specs.Component.{InComponent}
use Rattle.closure.proofs.{Asked.settling_same, OpenPushes.open_in, Settled.all_in_component}
use Rattle.closure.proofs.lookups.Lookups.enter.Goals as goal

pub find_component-requires : goal.find_component-requires
find_component-requires g c =
    let ready = c.requires.ready in
    let first = open_in c.args.task.now c.requires.task c.in-Some.first (c.requires.ready.settling.away.out c.in-Some.first c.in-Some.ensures).0 in
    record {
      region = ready.are.region ∙ sym ready.are.free;
      player = (ready.free.members c.in-Some.first.player).1 (first.room, first.outside);
      on = λ q has. rw ready.are.free ((c.requires.task.tables.formed.room q ((ready.free.members q).0 has).0).0);
      whole = ready.whole;
    }

pub returns-clause-ready : goal.returns-clause-ready
returns-clause-ready g c =
    let ready = c.requires.ready in
    let are = ready.are in
    let found = c.find_component.ensures.same in
    let parted = c.in_ok-enter.ensures in
    let first = open_in c.args.task.now c.requires.task c.in-Some.first (c.requires.ready.settling.away.out c.in-Some.first c.in-Some.ensures).0 in
    record {
      are = record {
        buckets = are.buckets;
        place = record { extent = are.place.extent; room = first.room };
        free = rw found.0 are.free;
        region = found.2 ∙ are.region;
        away = parted.extents.0 ∙ are.away;
        here = parted.extents.1 ∙ are.here;
      };
      boxes = ready.boxes;
      free = rw found.0 ready.free;
      whole = rw (found.1, found.0) ready.whole;
      settling = settling_same c.args.task.now c.args.self.now.buckets c.args.self.now.unsettled c.enter.new.self ready.settling
          (λ push has. inl (parted.away push has).0) (λ push has. inl (parted.here push has).0) parted.extents parted.search parted.inside;
    }

pub returns-clause-component : goal.returns-clause-component
returns-clause-component g c = λ _.
    let ready = c.requires.ready in
    let first = open_in c.args.task.now c.requires.task c.in-Some.first (c.requires.ready.settling.away.out c.in-Some.first c.in-Some.ensures).0 in
    all_in_component c.args.task.now.tables.now.board.now c.requires.task.tables.formed (cells_in c.args.task.now.boxes.now)
    c.args.self.now.flood.free ready.free c.in-Some.first.player first.outside (InComponent c.find_component.new.self) c.find_component.ensures.component c.enter.new.self.here.pushes
    (λ push has. (c.in_ok-enter.ensures.here push has).1)

pub returns-clause-kept : goal.returns-clause-kept
returns-clause-kept g c = λ _. c.in_ok-enter.ensures.kept

pub returns-clause-fewer : goal.returns-clause-fewer
returns-clause-fewer g c =
    let parted = c.in_ok-enter.ensures in
    let first = c.in-Some.first in
    let here : Contains c.enter.new.self.here.pushes first = either (parted.kept first c.in-Some.ensures)
    (λ away. absurd ((parted.away first away).1 c.find_component.ensures.player)) (λ has. has) in
    let low = here.1 in
    let sum = parted.sum in
    omega arith
