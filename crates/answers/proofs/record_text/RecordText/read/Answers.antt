use Rattle.std.proofs.Common.{arith}
use Rattle.answers.proofs.LetterTotals.{letters_of_record}
use Rattle.answers.proofs.record_text.RecordText.read.Goals as goal

pub returns-clause-letters : goal.returns-clause-letters
returns-clause-letters c = grind (arith, letters_of_record)
