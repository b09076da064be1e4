-- The line that was found is `end`, or it is passed like the lines that were skipped before it.
use Rattle.std.proofs.Common.{arith, sym, ap, ◌∙◌}
use Rattle.std.specs.Prelude.{codes}
use Rattle.std.specs.Str.{bytes_eq}
use Rattle.std.proofs.lemmas.Slice.Eq.{bytes_eq-Decides}
use Rattle.answers.specs.Grammar.{NoneEnds}
use Rattle.answers.proofs.DueLines.{differs}
use Rattle.answers.proofs.KeptLines.{cut_here, line_passed, passed_count, passed_none, passed_out, skipped_passed, found_shorter, passed_no_longer}
use Rattle.answers.proofs.line.cut_at_end.Goals as goal

pub loop-found-init : goal.loop-found-init
loop-found-init c = passed_none NoneEnds c.args.lines tt

pub find_line-requires : goal.find_line-requires
find_line-requires c = omega (arith, passed_count NoneEnds _ _ c.loop-found.invariant)

pub returns-then-eq-clause-some : goal.returns-then-eq-clause-some
returns-then-eq-clause-some c =
    let found = c.in-Some.ensures.some in
    let text = c.in-Some.line.text.now in
    let is = (bytes_eq-Decides text (codes "end")).0 (ap (bytes_eq text) (sym c.as_slice.ensures) ∙ sym c.eq.ensures ∙ c.if-eq.true) in
    cut_here _ _ (skipped_passed _ _ c.loop-found.invariant found.skipped) found is

pub loop-found-preserved : goal.loop-found-preserved
loop-found-preserved c =
    let found = c.in-Some.ensures.some in
    let text = c.in-Some.line.text.now in
    let other = differs (ap (bytes_eq text) (sym c.as_slice.ensures) ∙ sym c.eq.ensures ∙ c.if-eq.false) in
    line_passed _ _ (skipped_passed _ _ c.loop-found.invariant found.skipped) found.first found.before other

pub returns-clause-none : goal.returns-clause-none
returns-clause-none c = passed_out _ _ c.loop-found.invariant c.in_default.ensures.none

pub overflow_sub-size : goal.overflow_sub-size
overflow_sub-size c = passed_no_longer NoneEnds _ _ (skipped_passed _ _ c.loop-found.invariant c.in-Some.ensures.some.skipped)

pub loop-found-smaller : goal.loop-found-smaller
loop-found-smaller c = found_shorter _ _ _ _ _ c.in-Some.ensures.some
