-- The invariant says that no line so far is kept. `find_line` skips only comments, and a line after them that isn't kept is empty. So the
-- first line of the rest that is kept is the first one of the whole. Each turn takes a line off, so the loop ends, and if only comments are
-- left, no line is kept.
use Rattle.std.proofs.Common.{refl, arith, sym, ◌∙◌}
use Rattle.answers.specs.Held.{AreNone}
use Rattle.answers.proofs.KeptLines.{all_comments, comments_passed, found_shorter, kept_here, kept_left, line_kept, other_passed, passed_count, passed_no_longer, passed_none, found_count}
use Rattle.answers.proofs.line.next_kept.Goals as goal

pub loop-found-init : goal.loop-found-init
loop-found-init c = passed_none AreNone c.args.lines refl

pub find_line-requires : goal.find_line-requires
find_line-requires c = omega (arith, passed_count AreNone _ _ c.loop-found.invariant)

pub returns-then-is_kept-clause-some : goal.returns-then-is_kept-clause-some
returns-then-is_kept-clause-some c =
    let found = c.in-Some.ensures.some in
    kept_left _ _ (comments_passed _ _ c.loop-found.invariant found.skipped) ∙ line_kept _ _ _ _ _ found (sym c.is_kept.ensures ∙ c.if-is_kept.true)

pub returns-then-is_kept-clause-place : goal.returns-then-is_kept-clause-place
returns-then-is_kept-clause-place c =
    let found = c.in-Some.ensures.some in
    kept_here _ _ (comments_passed _ _ c.loop-found.invariant found.skipped) c.in-Some.line c.in-Some.rest found.first found.before

pub returns-then-is_kept-clause-count : goal.returns-then-is_kept-clause-count
returns-then-is_kept-clause-count c = found_count _ _ _ _ _ c.in-Some.ensures.some ∙ passed_count AreNone _ _ c.loop-found.invariant

pub returns-then-is_kept-clause-shorter : goal.returns-then-is_kept-clause-shorter
returns-then-is_kept-clause-shorter c = omega (arith, found_shorter _ _ _ _ _ c.in-Some.ensures.some, passed_no_longer AreNone _ _ c.loop-found.invariant)

pub loop-found-preserved : goal.loop-found-preserved
loop-found-preserved c =
    let found = c.in-Some.ensures.some in
    other_passed _ _ (comments_passed _ _ c.loop-found.invariant found.skipped) c.in-Some.line c.in-Some.rest found.first found.before (sym c.is_kept.ensures ∙ c.if-is_kept.false)

pub returns-clause-none : goal.returns-clause-none
returns-clause-none c = kept_left _ _ c.loop-found.invariant ∙ all_comments c.loop-found.left c.in_default.ensures.none

pub loop-found-smaller : goal.loop-found-smaller
loop-found-smaller c = found_shorter _ _ _ _ _ c.in-Some.ensures.some
