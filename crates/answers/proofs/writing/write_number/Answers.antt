use Rattle.std.proofs.Common.{arith}
use Rattle.std.proofs.lemmas.Fmt.{decimal-digits_of}
use Rattle.devices.proofs.WrittenTexts.{handed_as}
use Rattle.answers.proofs.writing.write_number.Goals as goal

pub returns : goal.returns
returns g c = grind (arith, decimal-digits_of, handed_as)
