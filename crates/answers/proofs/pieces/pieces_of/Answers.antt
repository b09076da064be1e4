-- The letters of the pieces so far, and then the letters of the lines that are left, are the letters of all lines. A turn cuts off the lines before the
-- next comment, and both the piece and the rest keep their letters. At the end no lines are left, so the pieces have all letters.
use Rattle.std.proofs.Common.{sym, ◌∙◌}
use Rattle.answers.specs.Pieces.{letters_in}
use Rattle.std.proofs.lemmas.Bool.{eqb-true}
use Rattle.answers.proofs.LetterPieces.{pieces_all}
use Rattle.answers.proofs.pieces.pieces_of.Goals as goal

pub returns-clause-letters : goal.returns-clause-letters
returns-clause-letters c =
    pieces_all c.loop-left.pieces.items c.loop-left.left.now (letters_in c.args.lines.now) c.loop-left.invariant.letters
    (eqb-true _ _ (sym c.is_empty.ensures ∙ c.loop-left-test.false))
