use Rattle.std.proofs.Common.{arith}
use Rattle.play.proofs.LetterTables.{is_added}
use Rattle.play.proofs.letters.added.Goals as goal

pub returns : goal.returns
returns c = is_added (omega arith)
