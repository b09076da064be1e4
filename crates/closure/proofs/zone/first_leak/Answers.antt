-- The invariant says that no cell of the zone that came leaks in any direction. `leak_from` returns the first direction in which the next
-- cell leaks, or None, which keeps the invariant. A leak that comes before the one found is of an earlier cell, which came before
-- (`MemberLists.antt` of `cellset`), or of the same cell in an earlier direction, so there is none. After the loop every cell of the zone
-- has come, so the zone is closed.
use Rattle.std.proofs.lemmas.List.Elements.{Contains-push_cases}
use Rattle.cellset.proofs.{MemberLists.all_came, MemberLists.next_has, MemberLists.came_before, MemberLists.next_came, Truth.either}
use Rattle.closure.proofs.zone.first_leak.Goals as goal

pub leak_from-requires-clause-on : goal.leak_from-requires-clause-on
leak_from-requires-clause-on g c =
    let whole = rw c.in-Some.ensures.steps at c.loop-cell.invariant.all in
    (next_has c.loop-cell.yielded c.next.new.self c.in-Some.cell whole).1

pub returns-in-Some-leak_from : goal.returns-in-Some-leak_from
returns-in-Some-leak_from g c =
    let whole = rw c.in-Some.ensures.steps at c.loop-cell.invariant.all in
    record {
      leaks = c.in-Some-leak_from.ensures.0;
      first = λ y e leak before. either before
          (λ early. c.loop-cell.invariant.passed y (came_before c.loop-cell.yielded c.next.new.self c.in-Some.cell whole y leak.inside early) e leak)
          (λ here. c.in-Some-leak_from.ensures.1 e (rw here.0 at leak) here.1);
    }

pub loop-cell-preserved : goal.loop-cell-preserved
loop-cell-preserved g c =
    let whole = rw c.in-Some.ensures.steps at c.loop-cell.invariant.all in
    record {
      can_next = tt;
      is_finite = tt;
      all = next_came c.loop-cell.yielded c.next.new.self c.in-Some.cell whole;
      passed = λ q came d leak. either (Contains-push_cases c.loop-cell.yielded c.in-Some.cell q came)
          (λ old. c.loop-cell.invariant.passed q old d leak)
          (λ here. c.in_default.ensures d (rw here leak));
    }

pub returns : goal.returns
returns g c = λ q d leak.
    let whole = rw c.in-None.ensures.steps.0 at c.loop-cell.invariant.all in
    c.loop-cell.invariant.passed q (((all_came _ _ c.loop-cell.yielded whole).exact q).1 leak.inside) d leak
