use Rattle.std.proofs.Common.{arith}
use Rattle.std.proofs.lemmas.List.{append-nil, drop_all}
use Rattle.answers.proofs.LetterPieces.{letters_before, no_comment_letters, no_letters}
use Rattle.answers.proofs.pieces.cut_at_comment.Goals as goal

pub returns-in_default-clause-letters : goal.returns-in_default-clause-letters
returns-in_default-clause-letters c = grind (arith, drop_all, no_letters, no_comment_letters, append-nil)

pub returns-clause-letters : goal.returns-clause-letters
returns-clause-letters c = grind (arith, letters_before)
