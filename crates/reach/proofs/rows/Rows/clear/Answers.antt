use Rattle.std.proofs.Common.{arith}
use Rattle.reach.proofs.Sets.{none_queued}
use Rattle.reach.proofs.Widths.{Changed, empty_changed, slice_changed}
use Rattle.reach.proofs.rows.Rows.clear.Goals as goal
use Rattle.reach.proofs.rows.Rows.clear.Goals.{in-Narrow, in-Wide}

left : (c : goal.After-self-2-1) → Changed c.match-self.self-inside.shape c.match-self.self-inside.rows (λ _. ⊥)
left c = elim c.match-self.branch [
  | in-Narrow w ↦
      let rows = w.in-Narrow.rows in
      rw w.self-inside-is (slice_changed 1 c.self.inside.shape rows.len rows.items w.clear.new.rows (λ _. ⊥) rows.ok.0 (rw w.in-Narrow.is at c.self.invariant.0)
      (grind arith) (λ q h. absurd (w.clear.ensures.none q h)) (λ q. (w.clear.ensures.none q, λ no. absurd no)))
  | in-Wide w ↦
      let rows = w.in-Wide.rows in
      rw w.self-inside-is (slice_changed 4 c.self.inside.shape rows.len rows.items w.clear-in-Wide.new.rows (λ _. ⊥) rows.ok.0 (rw w.in-Wide.is at c.self.invariant.0)
      (grind arith) (λ q h. absurd (w.clear-in-Wide.ensures.none q h)) (λ q. (w.clear-in-Wide.ensures.none q, λ no. absurd no)))
]

pub invariant_of-self : goal.invariant_of-self
invariant_of-self c = ((left c).0, none_queued _ _ (empty_changed _ _ (left c)) c.none.ensures)

pub returns-clause-members : goal.returns-clause-members
returns-clause-members c = empty_changed _ _ (left c)
