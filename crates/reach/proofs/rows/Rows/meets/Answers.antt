-- The invariant says that the rows have none of the cells seen so far. If they have the next cell, it is in both. Otherwise the invariant
-- holds with it. At the end every cell of the set has been seen (`MemberLists.antt` of `cellset`).
use Rattle.std.proofs.Common.{sym, ◌∙◌}
use Rattle.std.proofs.lemmas.Bool.{true≢false}
use Rattle.std.proofs.lemmas.List.Elements.{Contains-push_cases}
use Rattle.cellset.proofs.Members.{lacks_where}
use Rattle.cellset.proofs.MemberLists.{goes_on, next_came, all_came}
use Rattle.cellset.proofs.Truth.{either}
use Rattle.reach.proofs.rows.Rows.meets.Goals as goal

pub loop-cell-preserved : goal.loop-cell-preserved
loop-cell-preserved g c =
    let l = c.loop-cell in
    let others = c.args.self.now.members in
    let whole = goes_on l.yielded _ _ c.in-Some.ensures.steps l.invariant.all in
    record {
      can_next = tt;
      is_finite = tt;
      all = next_came l.yielded c.next.new.self c.in-Some.cell whole;
      passed = λ q came. either (Contains-push_cases l.yielded c.in-Some.cell q came)
          (λ old. l.invariant.passed q old)
          (λ here. rw here at (lacks_where others _ (λ has. true≢false (sym (c.has.ensures.1 has) ∙ c.if-has.false))));
    }

pub returns : goal.returns
returns g c = λ q has.
    let l = c.loop-cell in
    let cells = c.args.cells.now in
    let left = goes_on l.yielded _ _ c.in-None.ensures.steps.0 l.invariant.all in
    l.invariant.passed q (((all_came (g.S.CellSet.extent cells) (g.S.CellSet.members cells) l.yielded left).exact q).1 has)
