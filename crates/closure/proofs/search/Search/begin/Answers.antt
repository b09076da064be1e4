-- The invariant says that the cells so far are on the grid, and that they have the cells ahead of the pushes that the loop has passed.
use Rattle.std.proofs.Common.{◌≡◌, subst, inl, inr, arith}
use Rattle.std.proofs.lemmas.Bool.{cases_lt}
use Rattle.std.proofs.lemmas.List.Elements.{All-contains_itself, Contains-append_cases, Contains-append_left, Contains-append_right, Contains-push, Contains-push_cases}
use Rattle.std.proofs.lemmas.List.{get_or_default}
use Rattle.cellset.{specs.Cell.IsOn, proofs.Truth.either}
use Rattle.cellset.proofs.CellLists.{listed_has, has_listed}
use Rattle.closure.proofs.Lists.{no_push}
use Rattle.closure.proofs.{Grouped.boxes_on, Taken.none_in}
use Rattle.closure.proofs.search.Search.begin.Goals as goal

pub loop-push-init : goal.loop-push-init
loop-push-init g c = grind (arith, none_in)

pub loop-push-preserved : goal.loop-push-preserved
loop-push-preserved g c =
    let inv = c.loop-push.invariant in
    let pushes = c.args.pushes.now in
    let n = c.loop-push.push-index in
    let xs = c.loop-push.self.cells.items in
    let lt = c.loop-push-test.true in
    record {
      on = λ q has. either (Contains-push_cases xs _ q (rw c.in_ok-push.ensures.items at has)) (inv.on q)
          (λ same. subst (IsOn c.args.task.now.tables.now.board.now.shape) same (c.requires.pushes _ (All-contains_itself pushes n _ lt)).free.on);
      ahead = λ i p below. rw c.in_ok-push.ensures.items (elim (cases_lt i n) [
        | inl low ↦ Contains-append_left xs _ _ (inv.ahead i p low)
        | inr from ↦ let here : i ≡ n = omega arith in rw (here, get_or_default pushes n p no_push lt) (Contains-push xs _)
      ]);
    }

pub returns-clause-search : goal.returns-clause-search
returns-clause-search g c = λ buckets.
    let task = c.args.task.now in
    let is = c.requires.task in
    let inv = c.loop-push.invariant in
    record {
      on = λ q has. either (Contains-append_cases c.loop-push.self.cells.items task.boxes.now q (has_listed _ q (rw c.in_ok-extend_from_slice.ensures.items at has)))
          (inv.on q)
          (λ box. boxes_on task.tables.now.board.now task.tables.now.groups is.tables.lawful is.tables.grouped task.group is.group task.boxes.now is.boxes q (listed_has _ q box));
      begun = omega arith;
      link = omega arith;
      key = λ up. absurd (omega arith);
    }

pub returns-clause-ahead : goal.returns-clause-ahead
returns-clause-ahead g c = λ p listed.
    let low = listed.1 in
    let end = c.loop-push-test.false in
    let came = rw listed.2 at (c.loop-push.invariant.ahead listed.0 p (omega arith)) in
    rw c.in_ok-extend_from_slice.ensures.items (listed_has _ p.to (Contains-append_left _ c.args.task.now.boxes.now p.to came))

pub returns-clause-boxes : goal.returns-clause-boxes
returns-clause-boxes g c = λ q has.
    rw c.in_ok-extend_from_slice.ensures.items (listed_has _ q (Contains-append_right c.loop-push.self.cells.items _ q (has_listed _ q has)))
