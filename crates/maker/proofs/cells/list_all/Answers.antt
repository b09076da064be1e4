-- The invariant says that the worklist has exactly the members seen so far, and keeps its capacity. The members are in reading order, so
-- the next member isn't in the list yet, and the set has more members than the list has cells (`Listing.antt`). So there is space for the
-- next member. At the end every member has been seen (`MemberLists.antt` of `cellset`).
use Rattle.std.proofs.Common.{List, ◌∷◌, [], ◌++◌, length, sym, ◌∙◌, ap, subst, arith}
use Rattle.std.proofs.Math.ListN.{length-append}
use Rattle.cellset.specs.Members.{AreMembersOf}
use Rattle.cellset.specs.declared.cell.Cell.{Cell}
use Rattle.cellset.proofs.MemberLists.{goes_on, next_came, all_came}
use Rattle.maker.proofs.Listing.{members_count}
use Rattle.maker.proofs.cells.list_all.Goals as goal

pub push_reserved-requires : goal.push_reserved-requires
push_reserved-requires g c =
    let l = c.loop-cell in
    let whole = goes_on l.yielded _ _ c.in-Some.ensures.steps l.invariant.all in
    let count = members_count (l.yielded ++ c.in-Some.cell ∷ c.next.new.self) whole in
    let longer = length-append l.yielded (c.in-Some.cell ∷ c.next.new.self) in
    let same = ap length l.invariant.items in
    let kept = l.invariant.capacity in
    let space = c.requires.space in
    omega arith

pub loop-cell-preserved : goal.loop-cell-preserved
loop-cell-preserved g c =
    let l = c.loop-cell in
    record {
      can_next = tt;
      is_finite = tt;
      all = next_came l.yielded c.next.new.self c.in-Some.cell (goes_on l.yielded _ _ c.in-Some.ensures.steps l.invariant.all);
      items = c.push_reserved.ensures.items ∙ ap (λ (xs : List Cell). xs ++ c.in-Some.cell ∷ []) l.invariant.items;
      capacity = c.push_reserved.ensures.capacity ∙ l.invariant.capacity;
    }

pub returns-clause-members : goal.returns-clause-members
returns-clause-members g c =
    let l = c.loop-cell in
    let cells = c.args.cells.now in
    let extent = g.S.CellSet.extent cells in
    let members = g.S.CellSet.members cells in
    subst (AreMembersOf extent members) (sym l.invariant.items)
    (all_came extent members l.yielded (goes_on l.yielded _ _ c.in-None.ensures.steps.0 l.invariant.all))

pub returns-clause-count : goal.returns-clause-count
returns-clause-count g c =
    let l = c.loop-cell in
    let cells = c.args.cells.now in
    let all = all_came (g.S.CellSet.extent cells) (g.S.CellSet.members cells) l.yielded (goes_on l.yielded _ _ c.in-None.ensures.steps.0 l.invariant.all) in
    ap length l.invariant.items ∙ members_count l.yielded all
