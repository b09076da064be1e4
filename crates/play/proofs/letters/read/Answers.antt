use Rattle.std.proofs.Common.{arith}
use Rattle.play.proofs.LetterTables.{is_read}
use Rattle.play.proofs.letters.read.Goals as goal

pub returns-clause-read : goal.returns-clause-read
returns-clause-read c = is_read (omega arith)
