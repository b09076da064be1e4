use Rattle.std.proofs.Common.{◌-◌, [], ◌∷◌, ◌++◌, length, sym, ◌∙◌, arith}
use Rattle.board.proofs.LevelRuns.{next_shorter, next_within}
use Rattle.sokoaudit_c.specs.Outcome.{Holds}
use Rattle.sokoaudit_c.specs.declared.spans.Span.{Span}
use Rattle.sokoaudit_c.proofs.Places.{spans_all, spans_more, spans_none}
use Rattle.sokoaudit_c.proofs.Written.{none_written, one_written}
use Rattle.sokoaudit_c.proofs.spans.sokoaudit_levels.Goals as goal
use Rattle.sokoaudit_c.proofs.spans.sokoaudit_levels.Goals.{then-count-spans, else-count-spans}

pub loop-next-init : goal.loop-next-init
loop-next-init c = spans_none c.args.levels.now c.after_mark-rest.result.now c.args.spans.now c.after_mark-rest.ensures

pub loop-next-preserved : goal.loop-next-preserved
loop-next-preserved c =
    let text = c.args.levels.now in
    let next = c.in-Some.next in
    let level = c.in-Some.ensures.some in
    let old = c.args.spans.now in
    let so_far = c.loop-next.invariant in
    let few = so_far.few in
    let shorter = next_shorter _ _ _ _ level in
    let within = next_within _ _ _ _ level in
    let span : Span = record { at = length text - length next.from.now; end = length text - length next.after.now } in
    let holds : Holds old c.if-count-spans.spans (so_far.spans ++ span ∷ []) = elim c.if-count-spans.branch [
      | then-count-spans w ↦
          rw w.spans-is (one_written old c.loop-next.spans so_far.spans c.loop-next.count span (so_far.number ∙ sym so_far.same) so_far.written
          w.if-count-spans.true)
      | else-count-spans w ↦
          rw w.spans-is (none_written old c.loop-next.spans so_far.spans c.loop-next.count span (so_far.number ∙ sym so_far.same) so_far.written
          w.if-count-spans.false)
    ] in
    spans_more text c.loop-next.rest.now next.from.now next.level next.after.now old c.loop-next.spans c.if-count-spans.spans c.loop-next.count span so_far level
    (omega arith) (omega arith) holds

pub returns : goal.returns
returns c = spans_all c.args.levels.now c.loop-next.rest.now c.args.spans.now c.loop-next.spans c.loop-next.count c.loop-next.invariant c.in_default.ensures.none

pub loop-next-smaller : goal.loop-next-smaller
loop-next-smaller c = let level = c.in-Some.ensures.some in omega (arith, next_shorter _ _ _ _ level, next_within _ _ _ _ level)
