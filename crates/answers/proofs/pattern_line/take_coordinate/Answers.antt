-- The first digit is read before the loop. The invariant says that the digits so far spell the number, which stays small because a digit is added only to at most 6,553. At the end
-- no digit follows that could be added. So the number is too high for a coordinate (`takes_no_number`), or just this one is taken
-- (`takes_number`).
use Rattle.std.proofs.Common.{◌∙◌, arith, get_or, sym}
use Rattle.std.proofs.lemmas.Bool.{false≢true}
use Rattle.std.proofs.lemmas.List.{take_rest}
use Rattle.answers.proofs.Coordinates.{begins_take, one_digit_more, takes_no_digit, takes_no_number, takes_number}
use Rattle.answers.proofs.Numerals.{digit_from_test}
use Rattle.answers.proofs.pattern_line.take_coordinate.Goals as goal

pub returns-then-not-begins_number : goal.returns-then-not-begins_number
returns-then-not-begins_number c = grind (arith, takes_no_digit, false≢true)

pub returns-in_default : goal.returns-in_default
returns-in_default c = takes_no_digit c.args.text.now (λ _. c.in_default.ensures.none)

pub loop-more-preserved : goal.loop-more-preserved
loop-more-preserved c =
    let text = c.args.text.now in
    let at = c.loop-more.at in
    let more = c.in-Some-with_digit.ensures.some in
    let digit = digit_from_test (get_or text at 0) more.1 in
    record {
      some = omega arith;
      read = rw more.3 (one_digit_more text at c.loop-more.number c.loop-more.invariant.read more.0 more.1);
      small = omega arith;
    }

pub returns-then-number-gt65535 : goal.returns-then-number-gt65535
returns-then-number-gt65535 c = grind (arith, takes_no_number)

pub returns : goal.returns
returns c =
    let text = c.args.text.now in
    let at = c.loop-more.at in
    rw (take_rest text at) (takes_number text at c.loop-more.number c.loop-more.invariant.read c.in_default-with_digit.ensures.none
    (begins_take text at c.loop-more.invariant.some c.loop-more.invariant.read.within ∙ sym c.begins_number.ensures ∙ c.if-not-begins_number.false)
    c.if-number-gt65535.false)
