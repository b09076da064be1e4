use Rattle.std.proofs.Common.{refl, arith}
use Rattle.reach.proofs.Sets.{none_queued}
use Rattle.reach.proofs.Widths.{Changed, empty_changed, none_changed}
use Rattle.reach.proofs.rows.Rows.renew.Goals as goal
use Rattle.reach.proofs.rows.Rows.renew.Goals.{in-Narrow+in_ok-renew-in-Narrow, in-Wide+in_ok-renew-in-Wide}

left : (c : goal.After-self-2-1) → Changed c.args.shape c.match-self.self-inside.rows (λ _. ⊥)
left c = elim c.match-self.branch [
  | in-Narrow+in_ok-renew-in-Narrow w ↦ rw w.self-inside-is (grind (arith, none_changed))
  | in-Wide+in_ok-renew-in-Wide w ↦ rw w.self-inside-is (grind (arith, none_changed))
]

pub invariant_of-self-2 : goal.invariant_of-self-2
invariant_of-self-2 c = ((left c).0, none_queued _ _ (empty_changed _ _ (left c)) c.none.ensures)

pub returns-clause-renewed : goal.returns-clause-renewed
returns-clause-renewed c = (refl, empty_changed _ _ (left c))
