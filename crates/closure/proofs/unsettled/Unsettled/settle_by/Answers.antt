-- The region of the group has the player or not, and that decides for all pushes from the component (`OpenPushes.antt`).
use Rattle.std.proofs.Common.{◌≡◌, sym, ◌∙◌, refl, subst, inl, inr, arith}
use Rattle.std.specs.Prelude.{◌↔◌}
use Rattle.std.proofs.lemmas.Bool.{false≢true}
use Rattle.cellset.specs.{CellSet.Has, declared.cell.Cell.Cell}
use Rattle.cellset.proofs.{Members.has_or_lacks, Members.same_members, Truth.either}
use Rattle.certificates.specs.CellLists.{cells_in}
use Rattle.closure.{specs.Groups.boxes_of, specs.Groups.position_at, proofs.Moves.lacks_within, proofs.Asked.taken_none, proofs.Settled.lacks_pushed, proofs.Taken.none_in}
use Rattle.closure.proofs.OpenPushes.{inside_player, inside_settles, noted_settles, open_in}
use Rattle.closure.specs.declared.place.Place.{Place}
use Rattle.closure.proofs.Grouped.{boxes_on}
use Rattle.closure.proofs.unsettled.Unsettled.settle_by.Goals as goal

pub returns-then-not-is_inside-clause-none : goal.returns-then-not-is_inside-clause-none
returns-then-not-is_inside-clause-none g c =
    let task = c.args.task.now in
    let is = c.requires.place.is in
    let decides = c.is_inside.ensures c.requires.place.place.room (lacks_within (cells_in (boxes_of task.tables.now.groups c.args.group)) (cells_in task.boxes.now) c.args.place.now.player
    c.requires.group.has c.requires.component.outside) in
    λ push has covers. false≢true (sym c.if-not-is_inside.true ∙ decides.1 (inside_player task is c.args.group c.requires.group
    c.args.place.now.player c.args.self.now.here.pushes c.requires.component push has (open_in task is push (c.requires.here.out push has).0) covers))

pub returns-then-task-group-clause-asked : goal.returns-then-task-group-clause-asked
returns-then-task-group-clause-asked g c =
    let task = c.args.task.now in
    let is = c.requires.place.is in
    let inside = (c.is_inside.ensures c.requires.place.place.room (lacks_within (cells_in (boxes_of task.tables.now.groups c.args.group)) (cells_in task.boxes.now) c.args.place.now.player
    c.requires.group.has c.requires.component.outside)).0 c.if-not-is_inside.false in
    let long = is.noted.long in
    let within = c.requires.group.within in
    let noted = is.noted.covers c.args.group (omega arith) c.if-task-group.true in
    record {
      away = taken_none _ _;
      here = record {
        extent = c.clear.ensures.extent;
        kept = λ push was. inr (noted_settles task is c.args.group c.requires.group c.args.place.now.player c.args.self.now.here.pushes c.requires.component push was
            (open_in task is push (c.requires.here.out push was).0) noted inside);
        only = λ push has. absurd (none_in push (rw c.clear.ensures.none at has));
        fewer = rw c.clear.ensures.none (omega arith);
      };
      search = refl;
      inside = refl;
    }

pub lift-requires : goal.lift-requires
lift-requires g c =
    let task = c.args.task.now in
    let is = c.requires.place.is.tables in
    λ q has. rw c.requires.place.place.extent (boxes_on task.tables.now.board.now task.tables.now.groups is.lawful is.grouped c.args.group c.requires.group.within
    c.boxes-kept.result.now c.boxes-kept.ensures q has)

pub put-requires : goal.put-requires
put-requires g c =
    let task = c.args.task.now in
    let is = c.requires.place.is.tables in
    λ q has. rw (c.lift.ensures.extent, c.requires.place.place.extent) (boxes_on task.tables.now.board.now task.tables.now.groups is.lawful is.grouped c.args.group
    c.requires.group.within c.boxes-kept.result.now c.boxes-kept.ensures q has)

-- places with the same player and the same boxes are the same
same_place : (a b : Place) → a.player ≡ b.player → a.boxes.extent ≡ b.boxes.extent → ((q : Cell) → Has a.boxes.members q ↔ Has b.boxes.members q) → a ≡ b
same_place a b player extent members =
    let boxes = same_members a.boxes.members b.boxes.members (λ q. (members q).0) (λ q. (members q).1) in
    subst (λ x. a ≡ record { boxes = record { extent = b.boxes.extent; members = b.boxes.members }; player = x }) player
    (subst (λ x. a ≡ record { boxes = record { extent = x; members = b.boxes.members }; player = a.player }) extent
    (subst (λ x. a ≡ record { boxes = record { extent = a.boxes.extent; members = x }; player = a.player }) boxes refl))

pub returns-clause-place : goal.returns-clause-place
returns-clause-place g c =
    let lift = c.lift.ensures in
    let put = c.put.ensures in
    let kept = cells_in c.boxes-kept.result.now in
    same_place c.put.new.self c.args.place.now (put.player ∙ lift.player) (put.extent ∙ lift.extent) (λ q. (
      λ h. either ((put.members q).0 h) (λ standing. ((lift.members q).0 standing).0)
          (λ box. rw c.requires.place.boxes (c.requires.group.has q (rw c.boxes-kept.ensures at box))),
      λ h. (put.members q).1 (has_or_lacks kept q inr (λ lacks. inl ((lift.members q).1 (h, lacks)))),
    ))

pub returns-clause-asked : goal.returns-clause-asked
returns-clause-asked g c =
    let task = c.args.task.now in
    let is = c.requires.place.is in
    let inside = (c.is_inside.ensures c.requires.place.place.room (lacks_within (cells_in (boxes_of task.tables.now.groups c.args.group)) (cells_in task.boxes.now) c.args.place.now.player
    c.requires.group.has c.requires.component.outside)).0 c.if-not-is_inside.false in
    let taken = c.take_standing.ensures in
    record {
      away = taken_none _ _;
      here = record {
        extent = taken.extent;
        kept = λ push was. either (taken.kept push was) inl
            (λ standing. inr (inside_settles task is c.args.group c.requires.group c.args.place.now.player c.args.self.now.here.pushes c.requires.component push was
            (open_in task is push (c.requires.here.out push was).0) inside (rw c.boxes-kept.ensures at ((c.lift.ensures.members push.from).0 standing).1)));
        only = taken.only;
        fewer = taken.fewer;
      };
      search = refl;
      inside = refl;
    }

pub returns-clause-none : goal.returns-clause-none
returns-clause-none g c =
    let task = c.args.task.now in
    let is = c.requires.place.is in
    λ push has covers.
    let open_before = c.requires.here.out push (c.take_standing.ensures.only push has) in
    let move = (open_in task is push open_before.0).move in
    let lacks = lacks_pushed task.tables.now.board.now (cells_in task.boxes.now) push move (position_at task.tables.now.board.now task.tables.now.groups c.args.group) covers.1 in
    c.take_standing.ensures.none push has ((c.lift.ensures.members push.from).1 (rw c.requires.place.boxes move.box, rw c.boxes-kept.ensures lacks))
