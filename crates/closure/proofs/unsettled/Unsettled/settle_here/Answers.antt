use Rattle.std.proofs.Common.{◌∙◌}
use Rattle.closure.proofs.Asked.{open_less, asked_on, none_settled, onward_asked, onward_on, component_less}
use Rattle.closure.proofs.unsettled.Unsettled.settle_here.Goals as goal

pub settle_inside-requires : goal.settle_inside-requires
settle_inside-requires g c =
    let was = c.requires.settling in
    let now = c.ask_last.ensures.asked in
    let same = c.ask_last.ensures.place in
    record {
      place = rw same c.requires.place;
      inside = λ h has. was.inside h (rw now.inside at has);
      away = open_less c.args.task.now _ _ was.away now.away;
      here = open_less c.args.task.now _ _ was.here now.here;
      component = rw same (component_less c.args.task.now _ _ _ c.requires.component now.here.only);
    }

pub loop-self-init : goal.loop-self-init
loop-self-init g c = record {
  place = c.settle_inside.ensures.place ∙ c.ask_last.ensures.place;
  onward = onward_asked _ _ _ _ c.requires.settling (asked_on _ _ _ _ c.ask_last.ensures.asked c.settle_inside.ensures.asked);
  none = c.settle_inside.ensures.none;
}

pub ask_next-requires-clause-component : goal.ask_next-requires-clause-component
ask_next-requires-clause-component g c = rw c.loop-self.invariant.place (component_less c.args.task.now _ _ _ c.requires.component c.loop-self.invariant.onward.here.only)

pub loop-self-preserved : goal.loop-self-preserved
loop-self-preserved g c =
    record { place = c.in_ok-ask_next.ensures.place ∙ c.loop-self.invariant.place; onward = onward_on _ _ _ _ _ c.loop-self.invariant.onward c.in_ok-ask_next.ensures.onward; none = c.in_ok-ask_next.ensures.none }

pub returns-then-not-branch-clause-onward : goal.returns-then-not-branch-clause-onward
returns-then-not-branch-clause-onward g c = onward_on _ _ _ _ _ c.loop-self.invariant.onward c.in_ok-ask_next.ensures.onward

pub returns-then-not-branch-clause-rest : goal.returns-then-not-branch-clause-rest
returns-then-not-branch-clause-rest g c =
    none_settled _ _ c.requires.place.is c.requires.buckets _ c.in_ok-ask_next.ensures.onward.settling
    (rw c.if-not-branch.true at c.in_ok-ask_next.ensures.fewer) c.in_ok-ask_next.ensures.none
