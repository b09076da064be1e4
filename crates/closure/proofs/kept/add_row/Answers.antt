use Rattle.std.proofs.Common.{◌+◌, [], ◌∷◌, ◌++◌, refl, sym, ◌∙◌, ap, append_assoc, arith}
use Rattle.std.proofs.lemmas.List.{append-nil}
use Rattle.cellset.specs.RowBits.{IsRowOf}
use Rattle.closure.proofs.Lists.{each_more, length_more}
use Rattle.closure.proofs.kept.add_row.Goals as goal

pub loop-part-init : goal.loop-part-init
loop-part-init c = ([], sym (append-nil c.args.words.now.items), refl, λ p lt. absurd (omega arith))

pub loop-part-preserved : goal.loop-part-preserved
loop-part-preserved c =
    let inv = c.loop-part.invariant in
    let more = inv.0 in
    let word = c.row.result in
    let long = inv.2 in (
      more ++ word ∷ [],
      c.in_ok-push.ensures.items ∙ ap (λ l. l ++ word ∷ []) inv.1 ∙ append_assoc c.args.words.now.items more (word ∷ []),
      length_more more word ∙ ap (λ k. k + 1) long,
      λ p lt. each_more (λ i w. IsRowOf c.args.cells.now.members c.args.row i w) more word 0 (λ i low. inv.3 i (omega arith)) (rw long c.row.ensures) p (omega arith),
    )
