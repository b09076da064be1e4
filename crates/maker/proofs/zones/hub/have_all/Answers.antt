use Rattle.std.proofs.lemmas.List.Elements.{Contains-push_cases}
use Rattle.cellset.proofs.MemberLists.{goes_on, next_came, all_came}
use Rattle.cellset.proofs.Truth.{either}
use Rattle.maker.proofs.zones.hub.have_all.Goals as goal

pub loop-cell-preserved : goal.loop-cell-preserved
loop-cell-preserved g c =
    let l = c.loop-cell in
    record {
      can_next = tt;
      is_finite = tt;
      all = next_came l.yielded c.next.new.self c.in-Some.cell (goes_on l.yielded _ _ c.in-Some.ensures.steps l.invariant.all);
      passed = λ q came. either (Contains-push_cases l.yielded c.in-Some.cell q came)
          (λ old. l.invariant.passed q old)
          (λ here. rw here at (c.has.ensures.0 c.if-not-has.false));
    }

pub returns : goal.returns
returns g c = λ _ q has.
    let l = c.loop-cell in
    let cells = c.args.cells.now in
    let left = goes_on l.yielded _ _ c.in-None.ensures.steps.0 l.invariant.all in
    l.invariant.passed q (((all_came (g.S.CellSet.extent cells) (g.S.CellSet.members cells) l.yielded left).exact q).1 has)
