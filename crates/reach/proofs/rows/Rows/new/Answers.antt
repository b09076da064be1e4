use Rattle.std.proofs.Common.{refl, arith}
use Rattle.reach.proofs.Sets.{none_queued}
use Rattle.reach.proofs.Widths.{Changed, empty_changed, none_changed}
use Rattle.reach.proofs.rows.Rows.new.Goals as goal
use Rattle.reach.proofs.rows.Rows.new.Goals.{then-is_narrow+in_ok-empty, else-is_narrow+in_ok-empty-2}

left : (c : goal.After-none) → Changed c.args.shape c.if-is_narrow.rows (λ _. ⊥)
left c = elim c.if-is_narrow.branch [
  | then-is_narrow+in_ok-empty w ↦ rw w.rows-is (grind (arith, none_changed))
  | else-is_narrow+in_ok-empty-2 w ↦ rw w.rows-is (grind (arith, none_changed))
]

pub invariant_of-result : goal.invariant_of-result
invariant_of-result c = ((left c).0, none_queued _ _ (empty_changed _ _ (left c)) c.none.ensures)

pub returns : goal.returns
returns c = (refl, empty_changed _ _ (left c))
