use Rattle.std.proofs.Common.{◌≡◌, [], ap, length, sym, ◌∙◌}
use Rattle.std.proofs.lemmas.Bool.{eqb-false, eqb-true}
use Rattle.std.proofs.lemmas.List.{nil_from_length}
use Rattle.std.proofs.lemmas.Option.{some_pair_parts}
use Rattle.answers.proofs.CellTexts.{all_cells, not_all_cells}
use Rattle.answers.proofs.pattern_line.cells_of.Goals as goal

pub returns-in_default : goal.returns-in_default
returns-in_default c = not_all_cells (rw c.in_default.is at c.in_ok-rest.ensures) (λ cells e. absurd cc)

pub returns-then-not-is_empty : goal.returns-then-not-is_empty
returns-then-not-is_empty c =
    let some = eqb-false (length c.in-Some.rest.now) 0 (sym c.is_empty.ensures ∙ c.if-not-is_empty.true) in
    not_all_cells (rw c.in-Some.is at c.in_ok-rest.ensures)
    (λ cells e. absurd (some (ap length (some_pair_parts c.take_cells.new.cells.items cells c.in-Some.rest.now [] e).1)))

pub returns : goal.returns
returns c =
    let none : c.in-Some.rest.now ≡ [] = nil_from_length c.in-Some.rest.now
    (eqb-true (length c.in-Some.rest.now) 0 (sym c.is_empty.ensures ∙ c.if-not-is_empty.false)) in
    all_cells (rw (c.in-Some.is, none) at c.in_ok-rest.ensures)
