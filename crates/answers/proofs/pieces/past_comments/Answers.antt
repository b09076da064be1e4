use Rattle.std.proofs.Common.{arith}
use Rattle.std.proofs.lemmas.List.{drop_all, take_rest}
use Rattle.answers.proofs.LetterPieces.{comments_alone, letters_past, no_letters}
use Rattle.answers.proofs.pieces.past_comments.Goals as goal

pub returns-in-Some-clause-letters : goal.returns-in-Some-clause-letters
returns-in-Some-clause-letters c = grind (arith, take_rest, letters_past)

pub returns-in-None-clause-letters : goal.returns-in-None-clause-letters
returns-in-None-clause-letters c = grind (arith, take_rest, drop_all, no_letters, comments_alone)
