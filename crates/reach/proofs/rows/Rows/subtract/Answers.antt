use Rattle.std.proofs.Common.{◌≡◌, refl, arith}
use Rattle.cellset.specs.CellSet.{Has}
use Rattle.cellset.specs.declared.cell.Cell.{Cell}
use Rattle.reach.specs.BitRows.{InRows}
use Rattle.reach.specs.RowSet.{members_in}
use Rattle.reach.specs.Rows.{cells_in, rows_in}
use Rattle.reach.proofs.Sets.{has_is}
use Rattle.reach.proofs.Widths.{Changed, members_changed, occupied_fewer, slice_changed}
use Rattle.reach.proofs.rows.Rows.subtract.Goals as goal
use Rattle.reach.proofs.rows.Rows.subtract.Goals.{in-Narrow-Narrow, in-Wide-Wide}

left : (c : goal.Joined-self) → Changed c.match-self.self-inside.shape c.match-self.self-inside.rows
    (λ q. InRows (rows_in c.self.inside.rows) q × (InRows (rows_in c.other.inside.rows) q → ⊥))
left c = elim c.match-self.branch [
  | in-Narrow-Narrow w ↦
      let rows = w.in-Narrow-Narrow.rows in
      rw (w.self-inside-is, w.in-Narrow-Narrow.is-0, w.in-Narrow-Narrow.is-1) (slice_changed 1 c.self.inside.shape rows.len rows.items w.subtract.new.rows _ rows.ok.0 (rw w.in-Narrow-Narrow.is-0 at c.self.invariant.0)
      (grind arith) (grind arith) (grind arith))
  | in-Wide-Wide w ↦
      let rows = w.in-Wide-Wide.rows in
      rw (w.self-inside-is, w.in-Wide-Wide.is-0, w.in-Wide-Wide.is-1) (slice_changed 4 c.self.inside.shape rows.len rows.items w.subtract-in-Wide-Wide.new.rows _ rows.ok.0 (rw w.in-Wide-Wide.is-0 at c.self.invariant.0)
      (grind arith) (grind arith) (grind arith))
]

kept : (c : goal.Joined-self) → (c.match-self.self-inside.shape ≡ c.self.inside.shape) × (c.match-self.self-inside.occupied ≡ c.self.inside.occupied)
kept c = elim c.match-self.branch [
  | in-Narrow-Narrow w ↦ rw w.self-inside-is (refl, refl)
  | in-Wide-Wide w ↦ rw w.self-inside-is (refl, refl)
]

pub invariant_of-self : goal.invariant_of-self
invariant_of-self c =
    let fewer : (q : Cell) → Has (members_in c.match-self.self-inside.shape (rows_in c.match-self.self-inside.rows)) q
    → Has (members_in c.self.inside.shape (rows_in c.self.inside.rows)) q = λ q h. (has_is _ _ c.self.invariant.0.on q).1 ((members_changed _ _ _ (left c) q).0 h).0 in
    ((left c).0, rw (kept c).1 (occupied_fewer (cells_in c.self.inside.shape c.self.inside.rows) _ _ (kept c).0 fewer c.self.invariant.1))

pub returns-clause-members : goal.returns-clause-members
returns-clause-members c = rw (← c.self.view_is, ← c.other.view_is) (λ q.
    let now = members_changed _ _ _ (left c) q in
    let was = has_is _ _ c.self.invariant.0.on q in
    let other = has_is _ _ c.other.invariant.0.on q in
    grind arith)
