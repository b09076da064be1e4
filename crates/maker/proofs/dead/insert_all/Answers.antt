-- The invariant says that the rows have the cells seen so far, and the cells that they had at the start. The next cell lies on the grid, so
-- it can be inserted. Then the rows have it too, by cases on whether a cell was there, was seen before, or is the new one. At the end every
-- cell of the set has been seen (`MemberLists.antt` of `cellset`).
use Rattle.std.proofs.Common.{[], ◌∷◌, sym, ◌∙◌, subst, inl, inr}
use Rattle.std.proofs.lemmas.List.Elements.{Contains-append_left, Contains-push, Contains-push_cases}
use Rattle.cellset.specs.Shape.{Extent}
use Rattle.cellset.specs.Cell.{IsOn}
use Rattle.cellset.proofs.MemberLists.{goes_on, next_has, next_came, all_came}
use Rattle.cellset.proofs.Truth.{either}
use Rattle.maker.proofs.dead.insert_all.Goals as goal

pub insert-requires : goal.insert-requires
insert-requires g c =
    let l = c.loop-cell in
    let whole = goes_on l.yielded _ _ c.in-Some.ensures.steps l.invariant.all in
    let on = (next_has l.yielded c.next.new.self c.in-Some.cell whole).1 in
    subst (λ (e : Extent). IsOn e c.in-Some.cell) (c.requires ∙ sym l.invariant.extent) on

pub loop-cell-preserved : goal.loop-cell-preserved
loop-cell-preserved g c =
    let l = c.loop-cell in
    let cell = c.in-Some.cell in
    let came = l.yielded in
    record {
      can_next = tt;
      is_finite = tt;
      all = next_came came c.next.new.self cell (goes_on came _ _ c.in-Some.ensures.steps l.invariant.all);
      extent = c.insert.ensures.extent ∙ l.invariant.extent;
      members = λ q.
          let now = c.insert.ensures.members q in
          let was = l.invariant.members q in (
            (λ h. either (now.0 h)
                (λ old. either (was.0 old) (λ before. inl before) (λ early. inr (Contains-append_left came (cell ∷ []) q early)))
                (λ here. inr (rw here (Contains-push came cell)))),
            (λ s. now.1 (either s
                (λ before. inl (was.1 (inl before)))
                (λ there. either (Contains-push_cases came cell q there) (λ early. inl (was.1 (inr early))) (λ here. inr (sym here))))),
          );
    }

pub returns-clause-members : goal.returns-clause-members
returns-clause-members g c = λ q.
    let l = c.loop-cell in
    let cells = c.args.cells.now in
    let left = goes_on l.yielded _ _ c.in-None.ensures.steps.0 l.invariant.all in
    let all = all_came (g.S.CellSet.extent cells) (g.S.CellSet.members cells) l.yielded left in
    let kept = l.invariant.members q in (
      (λ h. either (kept.0 h) (λ before. inl before) (λ came. inr ((all.exact q).0 came))),
      (λ s. kept.1 (either s (λ before. inl before) (λ has. inr ((all.exact q).1 has)))),
    )
