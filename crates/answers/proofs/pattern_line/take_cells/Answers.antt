use Rattle.std.proofs.Common.{◌≡◌, sym, ◌∙◌, arith}
use Rattle.std.proofs.lemmas.Grind.{common_steps}
use Rattle.std.specs.Ordering.{partial_lt}
use Rattle.answers.specs.Reading.{is_before}
use Rattle.answers.specs.declared.pattern.Coord.{Coord}
use Rattle.answers.specs.contracts.pattern.CoordPartialOrd.TheImpl.{partial_cmp-value}
use Rattle.std.proofs.lemmas.Bool.{false≢true}
use Rattle.answers.proofs.TakenCells.{at_start, before_from_test, last_cell, no_cell, not_after, one_more, test_from_before}
use Rattle.answers.proofs.pattern_line.take_cells.Goals as goal

pub loop-cell-init : goal.loop-cell-init
loop-cell-init c = rw c.requires (at_start c.args.text.now)

pub returns-in_default : goal.returns-in_default
returns-in_default c = no_cell c.args.text.now c.loop-cell.cells.items c.loop-cell.last c.loop-cell.rest.now c.loop-cell.invariant c.in_default.ensures

before_is : (last cell : Coord) → partial_lt partial_cmp-value.it last cell ≡ is_before last cell
before_is last cell = grind (arith, common_steps)

pub returns-then-not-lt : goal.returns-then-not-lt
returns-then-not-lt c =
    not_after c.args.text.now c.loop-cell.cells.items c.loop-cell.last c.loop-cell.rest.now c.loop-cell.invariant c.in-Some.ensures
    (λ before. false≢true (sym c.if-not-lt.true ∙ c.lt.ensures ∙ before_is c.loop-cell.last c.in-Some.cell ∙ test_from_before before))

pub returns-in_default-after_blank : goal.returns-in_default-after_blank
returns-in_default-after_blank c =
    rw c.in_ok-push.ensures.ok
    (last_cell c.args.text.now c.loop-cell.cells.items c.loop-cell.last c.loop-cell.rest.now c.loop-cell.invariant c.in-Some.cell c.in-Some.after.now
    c.in-Some.ensures (before_from_test (sym (before_is c.loop-cell.last c.in-Some.cell) ∙ sym c.lt.ensures ∙ c.if-not-lt.false))
    c.in_default-after_blank.ensures.none)

pub loop-cell-preserved : goal.loop-cell-preserved
loop-cell-preserved c =
    let next = c.in-Some-after_blank.ensures.some in
    rw c.in_ok-push.ensures.ok
    (one_more c.args.text.now c.loop-cell.cells.items c.loop-cell.last c.loop-cell.rest.now c.loop-cell.invariant c.in-Some.cell c.in-Some.after.now
    c.in-Some.ensures (before_from_test (sym (before_is c.loop-cell.last c.in-Some.cell) ∙ sym c.lt.ensures ∙ c.if-not-lt.false))
    c.in-Some-after_blank.next.now next.0 next.1)
