-- The line begins with `pattern `, then with the boxes, and then with ` @ `, and the rest spells the seeds; or it spells no pattern
-- (`LineTexts.antt`).
use Rattle.std.proofs.Common.{◌++◌, None, Some, ap, codes, sym, take, ◌∙◌}
use Rattle.std.specs.Prelude.{option_map}
use Rattle.std.specs.Str.{bytes_eq}
use Rattle.std.proofs.lemmas.Bool.{false≢true}
use Rattle.std.proofs.lemmas.Option.{some_pair_parts}
use Rattle.answers.specs.Grammar.{said_seeds}
use Rattle.answers.specs.Held.{said_line}
use Rattle.answers.proofs.LineTexts.{none_by, not_pattern, read_by}
use Rattle.answers.proofs.pattern_line.pattern_of.Goals as goal

pub returns-in_default : goal.returns-in_default
returns-in_default c = not_pattern (said_line c.args.line) c.in_default.ensures.cases

pub returns-in_default-2 : goal.returns-in_default-2
returns-in_default-2 c =
    let front = c.in-Some.ensures.cases in
    none_by (said_line c.args.line) c.in-Some.text.now front.0 front.1 None (rw c.in_default-2.is at c.in_ok-rest.ensures) (λ boxes seeds e. absurd cc)

pub returns-in_default-strip_prefix : goal.returns-in_default-strip_prefix
returns-in_default-strip_prefix c =
    let front = c.in-Some.ensures.cases in
    let boxes = c.take_cells.new.cells.items in
    let rest = c.in-Some-2.rest.now in
    none_by (said_line c.args.line) c.in-Some.text.now front.0 front.1 (Some (boxes, rest)) (rw c.in-Some-2.is at c.in_ok-rest.ensures)
    (λ others seeds e. absurd (false≢true (sym c.in_default-strip_prefix.ensures.cases
    ∙ ap (λ l. bytes_eq (take 3 l) (codes " @ ")) (some_pair_parts boxes others rest (codes " @ " ++ seeds) e).1)))

pub returns-in_default-3 : goal.returns-in_default-3
returns-in_default-3 c =
    let front = c.in-Some.ensures.cases in
    let sign = c.in-Some-strip_prefix.ensures.cases in
    read_by (said_line c.args.line) c.in-Some.text.now front.0 front.1 c.take_cells.new.cells.items c.in-Some-2.rest.now c.in-Some-strip_prefix.text.now
    (rw c.in-Some-2.is at c.in_ok-rest.ensures) sign.0 sign.1 None (sym (ap (option_map said_seeds) c.in_default-3.is) ∙ c.in_ok-seeds.ensures)

pub returns : goal.returns
returns c =
    let front = c.in-Some.ensures.cases in
    let sign = c.in-Some-strip_prefix.ensures.cases in
    read_by (said_line c.args.line) c.in-Some.text.now front.0 front.1 c.take_cells.new.cells.items c.in-Some-2.rest.now c.in-Some-strip_prefix.text.now
    (rw c.in-Some-2.is at c.in_ok-rest.ensures) sign.0 sign.1 (Some (said_seeds c.in-Some-3.seeds))
    (sym (ap (option_map said_seeds) c.in-Some-3.is) ∙ c.in_ok-seeds.ensures)
