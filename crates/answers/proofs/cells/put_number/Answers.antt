use Rattle.std.proofs.Common.{arith}
use Rattle.std.proofs.lemmas.Fmt.{decimal-digits_of}
use Rattle.answers.proofs.Numerals.{few_digits}
use Rattle.answers.proofs.cells.put_number.Goals as goal

pub write_digits-requires : goal.write_digits-requires
write_digits-requires c = grind (arith, decimal-digits_of, few_digits)

pub returns-clause-few : goal.returns-clause-few
returns-clause-few c = grind (arith, decimal-digits_of, few_digits)

pub returns-clause-put : goal.returns-clause-put
returns-clause-put c = grind (arith, decimal-digits_of)
