-- The invariant is about every list of levels that the rest may have: the levels found, followed by these, are levels of the whole text.
-- So it says nothing yet of the rest, and a turn only has to move one level from the rest to the levels found (`LevelRuns.antt`). At the end
-- the rest has no levels. If one level too many is met, take any levels of the rest, which exist: then the text has a list of levels that is
-- too long.
use Rattle.std.proofs.Common.{not, [], ◌∷◌, ◌++◌, cond, ◌∙◌, ap, arith, append_assoc, length-append}
use Rattle.std.proofs.lemmas.List.{append-nil}
use Rattle.board.specs.Lines.{lines_in}
use Rattle.board.proofs.LevelRuns.{next_shorter, next_within, some_levels, with_next}
use Rattle.board.proofs.collection.levels.Goals as goal

pub loop-next-preserved : goal.loop-next-preserved
loop-next-preserved c =
    let rows = c.in-Some.next.level in
    let pushed = c.is_err.ensures.negation ∙ ap not c.if-is_err.false in
    let items = c.push.ensures.items ∙ ap (λ b. cond b (c.loop-next.found.items ++ rows ∷ []) c.loop-next.found.items) pushed in
    record {
      few = omega arith;
      so_far = λ more are. rw (items, append_assoc) (c.loop-next.invariant.so_far (rows ∷ more) (with_next _ _ _ _ c.in-Some.ensures.some more are));
    }

pub returns-then-len-eq-MAX_LEVELS-clause-too_many : goal.returns-then-len-eq-MAX_LEVELS-clause-too_many
returns-then-len-eq-MAX_LEVELS-clause-too_many c = λ _.
    let rows = c.in-Some.next.level in
    let rest = some_levels (lines_in c.in-Some.next.after.now) in
    let found = c.loop-next.found.items in
    let all = found ++ (rows ∷ rest.0) in (
      all,
      c.loop-next.invariant.so_far (rows ∷ rest.0) (with_next _ _ _ _ c.in-Some.ensures.some rest.0 rest.1),
      omega (arith, length-append found (rows ∷ rest.0), c.len.ensures, c.if-len-eq-MAX_LEVELS.true),
    )

pub returns-clause-ok : goal.returns-clause-ok
returns-clause-ok c = rw (append-nil c.loop-next.found.items) at (c.loop-next.invariant.so_far [] c.in_default.ensures.none)

pub loop-next-smaller : goal.loop-next-smaller
loop-next-smaller c = let next = c.in-Some.ensures.some in omega (arith, next_shorter _ _ _ _ next, next_within _ _ _ _ next)
