-- Each push out of the group moves one of its boxes, in one of the four directions.
use Rattle.std.proofs.Common.{◌≡◌, ◌⊎◌, ◌∙◌, ap, inl, inr, arith}
use Rattle.std.specs.List.{Contains}
use Rattle.std.proofs.lemmas.List.{get_or_default}
use Rattle.cellset.{proofs.Truth.either}
use Rattle.reach.specs.declared.pushes.Push.{Push}
use Rattle.certificates.specs.CellLists.{cell_no}
use Rattle.certificates.proofs.CellLists.{no_cell}
use Rattle.cellset.proofs.CellLists.{has_listed}
use Rattle.closure.specs.Settling.{IsPushOut, IsSettled}
use Rattle.closure.proofs.{Numbered.one_more, OpenPushes.each_dir, Taken.none_in}
use Rattle.closure.proofs.unsettled.Unsettled.begin.Goals as goal

pub loop-number-preserved : goal.loop-number-preserved
loop-number-preserved g c =
    let task = c.args.task.now in
    let inv = c.loop-number.invariant in
    let l = c.open_toward.ensures in
    let u = c.open_toward-in-loop-number.ensures in
    let r = c.open_toward-in-loop-number-2.ensures in
    let d = c.open_toward-in-loop-number-3.ensures in
    let new = c.open_toward-in-loop-number-3.new.self.away.pushes in
    let Opened : Push → Type 0 = λ push. Contains new push ⊎ IsSettled task push in
    let box = c.pushed_box-pushed.ensures.same in
    record {
      away = c.in_ok-open_toward-4.ensures.away;
      here = d.here ∙ (r.here ∙ (u.here ∙ (l.here ∙ inv.here)));
      all = one_more (λ i. (push : Push) → IsPushOut task push → push.from ≡ cell_no task.boxes.now i → Opened push) c.loop-number.number
          (λ i lt push out from. either (inv.all i lt push out from) (λ h. inl (d.kept push (r.kept push (u.kept push (l.kept push h))))) inr)
          (λ push out at. let from = rw (← box.1, ← box.2) at at in each_dir (Opened push) push.dir
          (λ e. either (c.in_ok-open_toward.ensures.all push out from e) (λ h. inl (d.kept push (r.kept push (u.kept push h)))) inr)
          (λ e. either (c.in_ok-open_toward-2.ensures.all push out from e) (λ h. inl (d.kept push (r.kept push h))) inr)
          (λ e. either (c.in_ok-open_toward-3.ensures.all push out from e) (λ h. inl (d.kept push h)) inr)
          (λ e. c.in_ok-open_toward-4.ensures.all push out from e));
    }

pub begin-requires-clause-pushes : goal.begin-requires-clause-pushes
begin-requires-clause-pushes g c = λ push has. (c.loop-number.invariant.away.out push (rw c.all.ensures at has)).0

pub returns-clause-settling : goal.returns-clause-settling
returns-clause-settling g c = λ buckets.
    let inv = c.loop-number.invariant in
    let found = c.in_ok-begin.ensures in
    record {
      away = inv.away;
      here = record { extent = c.clear-2.ensures.extent ∙ (ap (λ h. h.extent) inv.here ∙ c.requires.here); out = λ push has. absurd (none_in push (rw c.clear-2.ensures.none at has)) };
      search = found.search buckets;
      boxes_searched = found.boxes;
      away_searched = λ push has. found.ahead push (rw c.all.ensures has);
      here_searched = λ push has. absurd (none_in push (rw c.clear-2.ensures.none at has));
      inside = λ h has. absurd (none_in h (rw c.clear-3.ensures.items at has));
      asked = λ h lt passed. let low = passed.begun in let none = found.begun in absurd (omega arith);
    }

pub returns-clause-all : goal.returns-clause-all
returns-clause-all g c = grind (arith, has_listed, get_or_default, no_cell)
