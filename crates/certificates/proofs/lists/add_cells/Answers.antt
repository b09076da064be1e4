use Rattle.std.{proofs.Common.◌∙◌, proofs.Common.◌++◌, proofs.Common.ap, proofs.Common.sym, specs.Prelude.map}
use Rattle.std.proofs.lemmas.List.{append_assoc, map_more, take_all, Elements.All-push, Elements.All-same}
use Rattle.cellset.specs.Cell.{IsOn}
use Rattle.certificates.specs.CellLists.{cell_of}
use Rattle.certificates.proofs.CellLists.{each_in, in_cells}
use Rattle.certificates.proofs.lists.add_cells.Goals as goal

pub returns-in_default-clause-exact : goal.returns-in_default-clause-exact
returns-in_default-clause-exact c = (_, in_cells c.args.coords.now c.loop-at.at-index _ c.loop-at-test.true, c.in_default.ensures)

pub loop-at-preserved : goal.loop-at-preserved
loop-at-preserved c =
    let was = c.args.cells.now.items in
    let more = map_more cell_of c.args.coords.now c.loop-at.at-index (record { row = 0; column = 0 }) c.loop-at-test.true in
    record {
      same = rw (c.in_ok-push.ensures.items, c.loop-at.invariant.same, c.in-Some.ensures.1) (append_assoc was _ _ ∙ ap (λ l. was ++ l) (sym more));
      on = All-same (IsOn c.args.shape) _ _ more (All-push (IsOn c.args.shape) _ _ c.loop-at.invariant.on c.in-Some.ensures.0);
    }

pub returns-clause-exact : goal.returns-clause-exact
returns-clause-exact c =
    let all = take_all c.loop-at.at-index c.args.coords.now c.loop-at-test.false in (
      c.loop-at.invariant.same ∙ ap (λ l. c.args.cells.now.items ++ map cell_of l) all,
      each_in (IsOn c.args.shape) _ (rw all at c.loop-at.invariant.on),
    )
