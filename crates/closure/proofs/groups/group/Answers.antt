use Rattle.std.proofs.Common.{◌≡◌, ◌+◌, List, [], ◌∷◌, ◌++◌, length, ap, inl, inr, arith}
use Rattle.closure.{specs.Groups.AreGroups, specs.declared.arena.Span.Span, proofs.Grouping.group_more, proofs.Grouping.line_more, proofs.Grouping.line_within}
use Rattle.closure.proofs.groups.group.Goals as goal

pub group_of-requires-clause-boxes : goal.group_of-requires-clause-boxes
group_of-requires-clause-boxes c = grind (arith, line_within)

pub loop-line-preserved : goal.loop-line-preserved
loop-line-preserved c =
    let arena = c.args.arena in
    let of = c.loop-line.of.items in
    let spans = c.loop-line.spans.items in
    let n = c.loop-line.line-index in
    let group = c.in_ok-group.group in
    let so_far = c.loop-line.invariant.grouped in
    let Grouped : List Span → Type 0 = λ l. AreGroups arena (of ++ group ∷ []) l (n + 1) in
    record {
      grouped = rw (c.push_reserved.ensures.items, c.in_ok-to_u32.ensures.value) (elim (rw (c.deref.ensures.value, c.deref-line-items.ensures.value) at c.in_ok-group.ensures) [
        | inl old ↦ rw old.0 (line_more arena of spans n group so_far old.1 old.2)
        | inr new ↦ rw new.1 (group_more arena of spans n group so_far (rw c.deref-line-items.ensures.value at c.loop-line-test.true) new.0)
      ]);
      roomy = rw c.push_reserved.ensures.capacity c.loop-line.invariant.roomy;
    }

pub returns-clause-groups : goal.returns-clause-groups
returns-clause-groups c =
    let lines = ap (λ l. length l) c.deref-line-items.ensures.value in
    let all : c.loop-line.line-index ≡ length c.args.arena.lines.items = omega arith in
    record {
      all = rw all at c.loop-line.invariant.grouped;
      chained = rw (c.deref-2.ensures.value, c.len-3.ensures, c.loop-line.spans.ok.0) at c.in_ok-chains.ensures;
    }
