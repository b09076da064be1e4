use Rattle.std.proofs.Common.{[], ◌++◌, sym, ◌∙◌, ap, append_assoc, arith}
use Rattle.std.proofs.lemmas.List.{append-nil}
use Rattle.closure.proofs.KeptRows.{rows_long, rows_more}
use Rattle.closure.proofs.kept.add_rows.Goals as goal

pub loop-number-init : goal.loop-number-init
loop-number-init c = ([], sym (append-nil c.args.words.now.items), omega arith, λ k p lt part. absurd (omega arith))

pub loop-number-preserved : goal.loop-number-preserved
loop-number-preserved c =
    let inv = c.loop-number.invariant in
    let more = inv.0 in
    let (row, is, long, words) = c.in_ok-add_row.ensures in (
      more ++ row,
      is ∙ ap (λ l. l ++ row) inv.1 ∙ append_assoc c.args.words.now.items more row,
      rows_long c.loop-number.number c.args.parts more row inv.2 long,
      rows_more c.args.cells.now.members c.args.first c.loop-number.number c.args.parts more row inv.2 inv.3 words,
    )
