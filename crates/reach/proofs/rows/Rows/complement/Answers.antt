use Rattle.std.proofs.Common.{arith}
use Rattle.cellset.specs.Cell.{IsOn}
use Rattle.reach.specs.BitRows.{InRows}
use Rattle.reach.specs.Rows.{rows_in}
use Rattle.reach.proofs.Sets.{complement_is, has_is}
use Rattle.reach.proofs.Widths.{Changed, members_changed, slice_changed}
use Rattle.reach.proofs.rows.Rows.complement.Goals as goal
use Rattle.reach.proofs.rows.Rows.complement.Goals.{in-Narrow, in-Wide}

left : (c : goal.Joined-self) → Changed c.match-self.self-inside.shape c.match-self.self-inside.rows
    (λ q. IsOn c.self.inside.shape q × (InRows (rows_in c.self.inside.rows) q → ⊥))
left c = elim c.match-self.branch [
  | in-Narrow w ↦
      let rows = w.in-Narrow.rows in
      rw (w.self-inside-is, w.in-Narrow.is) (slice_changed 1 c.self.inside.shape rows.len rows.items w.complement.new.rows _ rows.ok.0 (rw w.in-Narrow.is at c.self.invariant.0)
      (grind arith) (grind (arith, complement_is)) (grind (arith, complement_is)))
  | in-Wide w ↦
      let rows = w.in-Wide.rows in
      rw (w.self-inside-is, w.in-Wide.is) (slice_changed 4 c.self.inside.shape rows.len rows.items w.complement-in-Wide.new.rows _ rows.ok.0 (rw w.in-Wide.is at c.self.invariant.0)
      (grind arith) (grind (arith, complement_is)) (grind (arith, complement_is)))
]

pub invariant_of-self : goal.invariant_of-self
invariant_of-self c = (
  (left c).0,
  elim c.match-self.branch [
    | in-Narrow w ↦ rw w.self-inside-is tt
    | in-Wide w ↦ rw w.self-inside-is tt
  ],
)

pub returns-clause-members : goal.returns-clause-members
returns-clause-members c = rw (← c.self.view_is) (λ q.
    let now = members_changed _ _ _ (left c) q in
    let was = has_is _ _ c.self.invariant.0.on q in
    grind arith)
