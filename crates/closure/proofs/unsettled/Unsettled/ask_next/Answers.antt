-- The search comes past the next group, and past no other. If its boxes are all there it is kept, and settles pushes from the component. Otherwise it covers
-- the result of no push that isn't settled by it.
use Rattle.std.proofs.Common.{refl, subst, inl, inr}
use Rattle.std.{proofs.lemmas.Option.same_Some}
use Rattle.std.proofs.lemmas.List.Elements.{Contains-append_left, Contains-push, Contains-push_cases}
use Rattle.cellset.proofs.Truth.{either}
use Rattle.certificates.specs.CellLists.{cells_in}
use Rattle.closure.specs.{Place.IsSubset, Settling.CoversNone, Settling.IsOnward, declared.unsettled.Unsettled.Unsettled}
use Rattle.closure.proofs.Asked.{open_less, onward_asked, onward_on, component_less, settling_next, taken_none}
use Rattle.closure.proofs.unsettled.Unsettled.ask_next.Goals as goal
use Rattle.closure.proofs.unsettled.Unsettled.ask_next.Goals.{In_ok-push}

pub returns-in_default-clause-onward : goal.returns-in_default-clause-onward
returns-in_default-clause-onward g c =
    let was = c.requires.settling in
    let step = c.next.ensures in
    record {
      settling = settling_next _ _ c.args.self.now _ was (λ push has. inl has) (λ push has. inr has) (refl, refl) step.cells step.search was.inside (λ h has. has)
          (λ h lt now. either (step.passed h lt now) inl (λ some. absurd (c.in_default.not-Some h some)));
      away = taken_none _ _;
      here = taken_none _ _;
    }

pub returns-then-not-ask-clause-onward : goal.returns-then-not-ask-clause-onward
returns-then-not-ask-clause-onward g c =
    let was = c.requires.settling in
    let step = c.next.ensures in
    let now = c.ask.ensures.asked in
    record {
      settling = settling_next _ _ c.args.self.now _ was (λ push has. inl (now.away.only push has)) (λ push has. inr (now.here.only push has)) (now.away.extent, now.here.extent)
          (rw now.search step.cells) (rw now.search step.search) (λ h has. was.inside h (rw now.inside at has)) (λ h has. rw now.inside has)
          (λ h lt passed. either (c.in-Some.ensures.passed h lt (rw now.search at passed)) inl
          (λ same. inr (inr (rw (same_Some c.in-Some.group h same) at c.if-not-ask.ensures.found))));
      away = now.away;
      here = now.here;
    }

-- the state with the group among those inside
abbrev pushed : (g : _) (c : In_ok-push g) → Unsettled
pushed g c = record {
  away = c.ask.new.self.away;
  here = c.ask.new.self.here;
  search = c.ask.new.self.search;
  inside = c.push.new.self;
  last = c.ask.new.self.last;
}

onward_pushed : (g : _) (c : In_ok-push g) → (IsSubset c.args.task.now.tables.now.groups (cells_in c.args.task.now.boxes.now) c.in-Some.group)
    → IsOnward c.args.task.now c.args.buckets.now c.args.self.now (pushed g c)
onward_pushed g c subset =
    let task = c.args.task.now in
    let was = c.requires.settling in
    let step = c.next.ensures in
    let now = c.ask.ensures.asked in
    record {
      settling = settling_next task c.args.buckets.now c.args.self.now (pushed g c) was (λ push has. inl (now.away.only push has)) (λ push has. inr (now.here.only push has)) (now.away.extent, now.here.extent)
          (rw now.search step.cells) (rw now.search step.search)
          (λ h has. either (Contains-push_cases c.ask.new.self.inside.items c.in-Some.group h (rw c.in_ok-push.ensures.items at has)) (λ old. was.inside h (rw now.inside at old))
          (λ same. subst (IsSubset task.tables.now.groups (cells_in task.boxes.now)) same subset))
          (λ h has. rw c.in_ok-push.ensures.items (Contains-append_left c.ask.new.self.inside.items _ h (rw now.inside has)))
          (λ h lt passed. either (c.in-Some.ensures.passed h lt (rw now.search at passed)) inl
          (λ same. inr (inl (rw (← (same_Some c.in-Some.group h same)) (rw c.in_ok-push.ensures.items (Contains-push c.ask.new.self.inside.items c.in-Some.group))))));
      away = now.away;
      here = now.here;
    }

pub settle_by-requires-clause-here : goal.settle_by-requires-clause-here
settle_by-requires-clause-here g c = open_less c.args.task.now _ _ c.requires.settling.here c.ask.ensures.asked.here

pub settle_by-requires-clause-component : goal.settle_by-requires-clause-component
settle_by-requires-clause-component g c = component_less c.args.task.now _ _ _ c.requires.component c.ask.ensures.asked.here.only

pub returns-clause-onward : goal.returns-clause-onward
returns-clause-onward g c =
    let at = (goal.at.returns-clause-onward g c).In_ok-push in
    let before = onward_pushed g at c.if-not-ask.ensures.found in
    onward_on _ _ c.args.self.now (pushed g at) c.settle_by.new.self before (onward_asked _ _ (pushed g at) c.settle_by.new.self before.settling c.settle_by.ensures.asked)

pub returns-clause-none : goal.returns-clause-none
returns-clause-none g c =
    let now = c.ask.ensures.asked in
    let last = c.settle_by.ensures in
    λ h has. either (Contains-push_cases c.ask.new.self.inside.items c.in-Some.group h (rw (last.asked.inside, c.in_ok-push.ensures.items) at has))
    (λ before push has_push. c.requires.none h (rw now.inside at before) push (now.here.only push (last.asked.here.only push has_push)))
    (λ same. subst (λ k. CoversNone c.args.task.now k c.settle_by.new.self.here.pushes) same last.none)
