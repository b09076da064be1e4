use borrow.Author.Count.{below_more}
use Rattle.std.proofs.Common.{◌≡◌, ◌<◌, length, sym, ◌∙◌, subst, arith}
use Rattle.std.{specs.Prelude.slice_index, specs.List.Contains}
use Rattle.std.proofs.lemmas.List.{get_or_default}
use Rattle.closure.specs.Settling.{CoversNone}
use Rattle.closure.proofs.Asked.{open_less, asked_on, component_less}
use Rattle.closure.proofs.unsettled.Unsettled.settle_inside.Goals as goal
use Rattle.closure.proofs.unsettled.Unsettled.settle_inside.Goals.{After-index-group}

within : (g : _) (c : After-index-group g) → c.loop-at.at < length c.loop-at.self.inside.items
within g c = grind arith

pub settle_by-requires : goal.settle_by-requires
settle_by-requires g c =
    let now = c.loop-at.invariant.asked in
    let lt = within g (goal.at.settle_by-requires g c).After-index-group in
    let listed : Contains c.loop-at.self.inside.items c.index-group.result.now = (c.loop-at.at, lt, sym c.index-group.ensures) in
    record {
      place = rw c.loop-at.invariant.place c.requires.place;
      group = c.requires.inside c.index-group.result.now (rw now.inside at listed);
      here = open_less c.args.task.now _ _ c.requires.here now.here;
      component = rw c.loop-at.invariant.place (component_less c.args.task.now _ _ _ c.requires.component now.here.only);
    }

pub loop-at-preserved : goal.loop-at-preserved
loop-at-preserved g c =
    let task = c.args.task.now in
    let now = c.settle_by.ensures in
    let lt = within g (goal.at.loop-at-preserved g c).After-index-group in
    let items = c.loop-at.self.inside.items in
    let here = c.settle_by.new.self.here.pushes in
    let read : c.index-group.result.now ≡ slice_index items c.loop-at.at = c.index-group.ensures ∙ get_or_default items c.loop-at.at c.index-group.result.now 0 lt in
    record {
      place = now.place ∙ c.loop-at.invariant.place;
      asked = asked_on _ _ _ _ c.loop-at.invariant.asked now.asked;
      none = rw now.asked.inside (below_more (λ k. CoversNone task (slice_index items k) here) c.loop-at.at
          (λ k before push has. c.loop-at.invariant.none k before push (now.asked.here.only push has))
          (subst (λ h. CoversNone task h here) read now.none));
    }

pub returns-clause-none : goal.returns-clause-none
returns-clause-none g c =
    let past = c.loop-at-test.false in
    let len = c.len-at-end.ensures in
    let items = c.loop-at.self.inside.items in
    λ h has.
    let lt : has.0 < length c.args.self.now.inside.items = rw c.loop-at.invariant.asked.inside at has.1 in
    subst (λ k. CoversNone c.args.task.now k c.loop-at.self.here.pushes) (get_or_default items has.0 0 h has.1 ∙ has.2)
    (c.loop-at.invariant.none has.0 (omega arith))
