use Rattle.std.proofs.Common.{◌<◌, length, sym, ◌∙◌, ap, subst, arith}
use Rattle.std.proofs.Math.Nat.{min-le_left}
use Rattle.std.proofs.lemmas.List.Elements.{All-get_or}
use Rattle.sokoaudit_c.specs.Records.{IsWithin, span_of}
use Rattle.sokoaudit_c.proofs.Entries.{entry_added}
use Rattle.sokoaudit_c.proofs.records.put_spans.Goals as goal

pub span_of-requires : goal.span_of-requires
span_of-requires c =
    let below : c.loop-at.at < length c.args.records.now = omega (arith, c.loop-at-test.true, c.min-taken.ensures, min-le_left (length c.args.records.now) (length c.args.spans.now)) in
    subst (IsWithin c.args.total) (sym c.index-records-at.is) (All-get_or (IsWithin c.args.total) c.args.records.now c.loop-at.at _ below c.requires)

pub loop-at-preserved : goal.loop-at-preserved
loop-at-preserved c =
    entry_added (span_of c.args.total) c.args.records.now c.args.spans.now c.loop-at.spans c.loop-at.at c.min-taken.result _ c.span_of.result c.loop-at-test.true
    c.min-taken.ensures c.loop-at.invariant (c.span_of.ensures ∙ ap (span_of c.args.total) c.index-records-at.is)
