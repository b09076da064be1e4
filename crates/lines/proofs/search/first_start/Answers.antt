-- The first byte is tested alone, because no line feed comes before it. Then the invariant of both loops is what was scanned: no line that
-- begins before the place begins with a byte of the class, and the line feeds before it are counted. 32 bytes without a start and a byte
-- without a start keep it. A byte of the class after a line feed is the first start, and at the end of the text there is none.
use Rattle.std.proofs.Common.{arith, subst, sym, ℕ, ◌+◌, ◌∙◌}
use Rattle.std.proofs.lemmas.Bool.{eqb-false, eqb-true}
use Rattle.lines.proofs.Starts.{few_before, nothing_begins, scan_end, scan_feed, scan_other, scan_start, start_after, start_at_once}
use Rattle.lines.specs.Starts.{IsScanned}
use Rattle.lines.proofs.search.first_start.Goals as goal
use Rattle.lines.proofs.search.first_start.Goals.{then-text-at-eq10+else-has-2, else-text-at-eq10}

pub returns-then-is_empty-clause-none : goal.returns-then-is_empty-clause-none
returns-then-is_empty-clause-none g c = nothing_begins _ c.args.text.now (eqb-true _ _ (sym c.is_empty.ensures ∙ c.if-is_empty.true))

pub returns-then-has-clause-some : goal.returns-then-has-clause-some
returns-then-has-clause-some g c =
    start_at_once _ _ (omega (arith, eqb-false _ _ (sym c.is_empty.ensures ∙ c.if-is_empty.false))) (sym c.has.ensures ∙ c.if-has.true)

pub blocks-2-init : goal.blocks-2-init
blocks-2-init g c = scan_start _ _ (sym c.has.ensures ∙ c.if-has.false)

pub blocks-2-preserved : goal.blocks-2-preserved
blocks-2-preserved g c = c.in_default.ensures.none

pub overflow_add-before : goal.overflow_add-before
overflow_add-before g c = omega (arith, few_before _ _ _ _ c.bytes.invariant)

pub returns-then-has-2-clause-some : goal.returns-then-has-2-clause-some
returns-then-has-2-clause-some g c =
    start_after _ _ c.bytes.at c.bytes.before (omega arith) c.bytes.invariant c.if-text-at-eq10.true (sym c.has-then-text-at-eq10.ensures ∙ c.if-has-2.true)

pub bytes-preserved : goal.bytes-preserved
bytes-preserved g c =
    let scanned = λ (n : ℕ). IsScanned (g.C.Class.holds c.args.class) c.args.text.now (c.bytes.at + 1) n in
    elim c.if-text-at-eq10.branch [
      | then-text-at-eq10+else-has-2 w ↦ subst scanned (sym w.before-is)
          (scan_feed _ _ _ _ c.bytes-test.true c.bytes.invariant w.if-text-at-eq10.true (sym w.has-then-text-at-eq10.ensures ∙ w.if-has-2.false))
      | else-text-at-eq10 w ↦ subst scanned (sym w.before-is) (scan_other _ _ _ _ c.bytes-test.true c.bytes.invariant w.if-text-at-eq10.false)
    ]

pub returns-clause-none : goal.returns-clause-none
returns-clause-none g c = scan_end _ _ _ _ c.bytes-test.false c.bytes.invariant
