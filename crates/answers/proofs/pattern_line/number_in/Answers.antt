use Rattle.std.proofs.Common.{◌+◌, arith}
use Rattle.answers.proofs.Numerals.{number_in-more, number_in-take-le}
use Rattle.answers.proofs.pattern_line.number_in.Goals as goal

pub returns-in_err-checked_mul : goal.returns-in_err-checked_mul
returns-in_err-checked_mul c =
    let ds = c.args.digits.now in
    let i = c.loop-digit.digit-index in
    let large = c.in_err-checked_mul.ensures in
    rw c.from_residual.ensures (λ low. large (omega (arith, number_in-more ds i (omega arith), number_in-take-le ds (i + 1))))

pub returns-in_err-number : goal.returns-in_err-number
returns-in_err-number c =
    let ds = c.args.digits.now in
    let i = c.loop-digit.digit-index in
    let large = c.in_err-number.ensures in
    rw c.from_residual-in_err-number.ensures
    (λ low. large (omega (arith, number_in-more ds i (omega arith), number_in-take-le ds (i + 1))))

pub loop-digit-preserved : goal.loop-digit-preserved
loop-digit-preserved c = grind (arith, number_in-more)
