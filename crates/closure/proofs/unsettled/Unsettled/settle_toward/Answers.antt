-- The push in the direction to the one box that isn't there comes from the cell beside it. The group covers its result exactly if its region has
-- that cell (`OpenPushes.antt`).
use Rattle.std.proofs.Common.{refl, sym, ◌∙◌, ap, subst, inl, inr}
use Rattle.std.proofs.lemmas.Bool.{false≢true}
use Rattle.cellset.specs.Cell.{neighbor}
use Rattle.cellset.proofs.Truth.{either}
use Rattle.reach.specs.declared.pushes.Push.{Push}
use Rattle.certificates.proofs.RegionCells.{region_lacks}
use Rattle.closure.specs.{Groups.boxes_of, Groups.position_at, Open.IsThat, Settling.IsPushOut}
use Rattle.closure.proofs.Grouped.{boxes_on}
use Rattle.closure.proofs.OpenPushes.{ahead_covers, ahead_to, none_toward, open_from, open_in, open_on, settled_by}
use Rattle.closure.proofs.unsettled.Unsettled.settle_toward.Goals as goal

pub step-requires : goal.step-requires
step-requires g c =
    let task = c.args.task.now in
    let is = c.requires.task.tables in
    rw c.shape.ensures.value (boxes_on task.tables.now.board.now task.tables.now.groups is.lawful is.grouped c.args.group c.requires.group
    (boxes_of task.tables.now.groups c.args.group) refl c.args.to c.requires.misses.0)

pub returns-in_default-clause-away : goal.returns-in_default-clause-away
returns-in_default-clause-away g c =
    let task = c.args.task.now in
    none_toward task c.requires.task c.args.group c.requires.group c.args.to c.requires.misses c.args.dir c.args.self.now.away.pushes (λ push has. (c.requires.away.out push has).0)
    (λ push has that covers. c.in_default.ensures (rw (c.shape.ensures.value, c.opposite.ensures, ← that.cell) (open_on task c.requires.task push (c.requires.away.out push has).0)))

pub returns-in_default-clause-here : goal.returns-in_default-clause-here
returns-in_default-clause-here g c =
    let task = c.args.task.now in
    none_toward task c.requires.task c.args.group c.requires.group c.args.to c.requires.misses c.args.dir c.args.self.now.here.pushes (λ push has. (c.requires.here.out push has).0)
    (λ push has that covers. c.in_default.ensures (rw (c.shape.ensures.value, c.opposite.ensures, ← that.cell) (open_on task c.requires.task push (c.requires.here.out push has).0)))

pub returns-then-not-is_open-clause-away : goal.returns-then-not-is_open-clause-away
returns-then-not-is_open-clause-away g c =
    let task = c.args.task.now in
    none_toward task c.requires.task c.args.group c.requires.group c.args.to c.requires.misses c.args.dir c.args.self.now.away.pushes (λ push has. (c.requires.away.out push has).0)
    (λ push has that covers. c.is_open.ensures.away c.if-not-is_open.true push has
    (subst (λ q. IsThat q c.args.dir push) (ap (neighbor c.args.to) (sym c.opposite.ensures) ∙ sym c.in-Some.ensures.1) that))

pub returns-then-not-is_open-clause-here : goal.returns-then-not-is_open-clause-here
returns-then-not-is_open-clause-here g c =
    let task = c.args.task.now in
    none_toward task c.requires.task c.args.group c.requires.group c.args.to c.requires.misses c.args.dir c.args.self.now.here.pushes (λ push has. (c.requires.here.out push has).0)
    (λ push has that covers. c.is_open.ensures.here c.if-not-is_open.true push has
    (subst (λ q. IsThat q c.args.dir push) (ap (neighbor c.args.to) (sym c.opposite.ensures) ∙ sym c.in-Some.ensures.1) that))

pub returns-then-not-is_in_region-clause-away : goal.returns-then-not-is_in_region-clause-away
returns-then-not-is_in_region-clause-away g c =
    let task = c.args.task.now in
    none_toward task c.requires.task c.args.group c.requires.group c.args.to c.requires.misses c.args.dir c.args.self.now.away.pushes (λ push has. (c.requires.away.out push has).0)
    (λ push has that covers.
    let from = that.cell ∙ (ap (neighbor c.args.to) (sym c.opposite.ensures) ∙ sym c.in-Some.ensures.1) in
    let room = rw from at (open_from task c.requires.task push (c.requires.away.out push has).0) in
    false≢true (sym c.if-not-is_in_region.true ∙ (c.is_in_region.ensures room).1 (rw from at covers.1.player)))

pub returns-then-not-is_in_region-clause-here : goal.returns-then-not-is_in_region-clause-here
returns-then-not-is_in_region-clause-here g c =
    let task = c.args.task.now in
    none_toward task c.requires.task c.args.group c.requires.group c.args.to c.requires.misses c.args.dir c.args.self.now.here.pushes (λ push has. (c.requires.here.out push has).0)
    (λ push has that covers.
    let from = that.cell ∙ (ap (neighbor c.args.to) (sym c.opposite.ensures) ∙ sym c.in-Some.ensures.1) in
    let room = rw from at (open_from task c.requires.task push (c.requires.here.out push has).0) in
    false≢true (sym c.if-not-is_in_region.true ∙ (c.is_in_region.ensures room).1 (rw from at covers.1.player)))

pub returns-clause-asked : goal.returns-clause-asked
returns-clause-asked g c =
    let task = c.args.task.now in
    let is = c.requires.task in
    let groups = task.tables.now.groups in
    let level = task.tables.now.board.now in
    let on = boxes_on level groups is.tables.lawful is.tables.grouped c.args.group c.requires.group (boxes_of groups c.args.group) refl c.args.to c.requires.misses.0 in
    let from = c.in-Some.ensures.1 ∙ ap (neighbor c.args.to) c.opposite.ensures in
    let settled = λ (push : Push) (out : IsPushOut task push) (that : IsThat c.in-Some.from c.args.dir push).
    let inside = (c.is_in_region.ensures (rw that.cell at (open_from task is push out))).0 c.if-not-is_in_region.false in
    let ahead = ahead_to task is push out c.args.to c.args.dir on (subst (λ q. IsThat q c.args.dir push) from that) in
    settled_by task is c.args.group push (ahead_covers task is c.args.group c.requires.group push (open_in task is push out) c.args.to c.requires.misses
    (region_lacks level (position_at level groups c.args.group) push.from (rw (← that.cell) at inside)) (rw (← that.cell) at inside) ahead) in
    record {
      away = record {
        extent = c.take-2.ensures.extent;
        kept = λ push was. either (c.take-2.ensures.kept push was) inl (λ that. inr (settled push (c.requires.away.out push was).0 that));
        only = c.take-2.ensures.only;
        fewer = c.take-2.ensures.fewer;
      };
      here = record {
        extent = c.take.ensures.extent;
        kept = λ push was. either (c.take.ensures.kept push was) inl (λ that. inr (settled push (c.requires.here.out push was).0 that));
        only = c.take.ensures.only;
        fewer = c.take.ensures.fewer;
      };
      search = refl;
      inside = refl;
    }

pub returns-clause-away : goal.returns-clause-away
returns-clause-away g c =
    let task = c.args.task.now in
    let take = c.take-2.ensures in
    none_toward task c.requires.task c.args.group c.requires.group c.args.to c.requires.misses c.args.dir c.take-2.new.self.pushes
    (λ push has. (c.requires.away.out push (take.only push has)).0)
    (λ push has that covers. take.none push has (subst (λ q. IsThat q c.args.dir push) (ap (neighbor c.args.to) (sym c.opposite.ensures) ∙ sym c.in-Some.ensures.1) that))

pub returns-clause-here : goal.returns-clause-here
returns-clause-here g c =
    let task = c.args.task.now in
    let take = c.take.ensures in
    none_toward task c.requires.task c.args.group c.requires.group c.args.to c.requires.misses c.args.dir c.take.new.self.pushes
    (λ push has. (c.requires.here.out push (take.only push has)).0)
    (λ push has that covers. take.none push has (subst (λ q. IsThat q c.args.dir push) (ap (neighbor c.args.to) (sym c.opposite.ensures) ∙ sym c.in-Some.ensures.1) that))
