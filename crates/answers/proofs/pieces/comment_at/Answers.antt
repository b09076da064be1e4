-- The invariant says that no comment begins before `from`. A comment begins at a semicolon that is first in its line, so none begins
-- before the next semicolon (`looked` in `LetterPieces.antt`). If that one comes first in the text or right after a line feed, the first
-- comment begins there. Otherwise none begins there either, and the search goes on after it. If no semicolon is left, no comment is.
use Rattle.std.proofs.Common.{arith}
use Rattle.answers.proofs.LetterPieces.{looked, looked_past}
use Rattle.answers.proofs.pieces.comment_at.Goals as goal

pub returns-then-at-eq0-clause-before : goal.returns-then-at-eq0-clause-before
returns-then-at-eq0-clause-before c = looked c.loop-next.invariant.within c.loop-next.invariant.none c.in-Some.ensures.0.before

pub loop-next-preserved : goal.loop-next-preserved
loop-next-preserved c =
    let lines = c.args.lines.now in
    let before = looked c.loop-next.invariant.within c.loop-next.invariant.none c.in-Some.ensures.0.before in
    grind (arith, looked_past)

pub returns-clause-none : goal.returns-clause-none
returns-clause-none c = λ k below comment.
    let lines = c.args.lines.now in
    looked c.loop-next.invariant.within c.loop-next.invariant.none c.in_default-find_byte.ensures k (omega arith) comment
