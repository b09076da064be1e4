-- The facts about the bits of rows, which the free function `grow` gives, become facts about members. The worklist has the rows of the
-- members, and so the rows of the bits. The new rows are as many as the old ones, and on the grid because the free rows and the old ones are.
use Rattle.std.proofs.Common.{◌≡◌, sym, ◌∙◌, ap, arith}
use Rattle.std.specs.Prelude.{◌↔◌}
use Rattle.cellset.specs.CellSet.{CellsOn, Has}
use Rattle.cellset.specs.declared.cell.Cell.{Cell}
use Rattle.reach.specs.RowSet.{members_in}
use Rattle.reach.specs.BitRows.{InRows}
use Rattle.reach.specs.Reached.{Reached}
use Rattle.reach.specs.Grown.{in_rows}
use Rattle.reach.specs.Rows.{rows_in}
use Rattle.reach.proofs.Chains.{reached_more}
use Rattle.reach.proofs.Sets.{rows_alike, rows_few, rows_inside, has_is, tests_are}
use Rattle.reach.proofs.Widths.{Changed, members_changed, slice_changed}
use Rattle.reach.proofs.rows.Rows.grow.Goals as goal
use Rattle.reach.proofs.rows.Rows.grow.Goals.{in-Narrow-Narrow, in-Wide-Wide}

pub grow-requires : goal.grow-requires
grow-requires g c = grind (arith, rows_alike, has_is, rows_inside, rows_few)

pub grow-requires-in-Wide-Wide : goal.grow-requires-in-Wide-Wide
grow-requires-in-Wide-Wide g c = grind (arith, rows_alike, has_is, rows_inside, rows_few)

module _ (g : _) (c : goal.Joined-self g) where
  same_shape : c.free.inside.shape ≡ c.self.inside.shape
  same_shape = ap (λ (v : CellsOn). v.extent) c.free.view_is ∙ sym c.requires ∙ sym (ap (λ (v : CellsOn). v.extent) c.self.view_is)

  left : Changed c.match-self.self-inside.shape c.match-self.self-inside.rows
      (Reached (g.T.StepKind.leads (in_rows (rows_in c.free.inside.rows))) (InRows (rows_in c.self.inside.rows)))
  left = elim c.match-self.branch [
    | in-Narrow-Narrow w ↦
        let rows = w.in-Narrow-Narrow.rows in
        rw (w.self-inside-is, w.in-Narrow-Narrow.is-0, w.in-Narrow-Narrow.is-1) (slice_changed 1 c.self.inside.shape rows.len rows.items w.grow.new.region _ rows.ok.0
        (rw w.in-Narrow-Narrow.is-0 at c.self.invariant.0) (grind (arith, rows_alike)) (w.grow.ensures.on c.self.inside.shape (rw w.deref.ensures.value (rw (same_shape, w.in-Narrow-Narrow.is-1) at c.free.invariant.0.on))
        (rw w.deref_mut.ensures.value (rw w.in-Narrow-Narrow.is-0 at c.self.invariant.0.on)))
        (rw (← w.deref.ensures.value, ← w.deref_mut.ensures.value) w.grow.ensures.exact))
    | in-Wide-Wide w ↦
        let rows = w.in-Wide-Wide.rows in
        rw (w.self-inside-is, w.in-Wide-Wide.is-0, w.in-Wide-Wide.is-1) (slice_changed 4 c.self.inside.shape rows.len rows.items w.grow-in-Wide-Wide.new.region _ rows.ok.0
        (rw w.in-Wide-Wide.is-0 at c.self.invariant.0) (grind (arith, rows_alike)) (w.grow-in-Wide-Wide.ensures.on c.self.inside.shape (rw w.deref-in-Wide-Wide.ensures.value (rw (same_shape, w.in-Wide-Wide.is-1) at c.free.invariant.0.on))
        (rw w.deref_mut-in-Wide-Wide.ensures.value (rw w.in-Wide-Wide.is-0 at c.self.invariant.0.on)))
        (rw (← w.deref-in-Wide-Wide.ensures.value, ← w.deref_mut-in-Wide-Wide.ensures.value) w.grow-in-Wide-Wide.ensures.exact))
  ]

pub invariant_of-self : goal.invariant_of-self
invariant_of-self g c = (
  (left g c).0,
  elim c.match-self.branch [
    | in-Narrow-Narrow w ↦ rw w.self-inside-is tt
    | in-Wide-Wide w ↦ rw w.self-inside-is tt
  ],
)

pub returns-clause-exact : goal.returns-clause-exact
returns-clause-exact g c = rw (← c.self.view_is, ← c.free.view_is) (λ q.
    let now = members_changed _ _ _ (left g c) q in
    let seeds : (p : Cell) → Has (members_in c.self.inside.shape (rows_in c.self.inside.rows)) p ↔ InRows (rows_in c.self.inside.rows) p =
    has_is _ _ c.self.invariant.0.on in
    let tests = tests_are c.free.inside.shape (rows_in c.free.inside.rows) c.free.invariant.0.on in
    let leads = g.T.StepKind.leads (in_rows (rows_in c.free.inside.rows)) in
    rw tests (
      (λ h. reached_more leads _ _ (λ p. (seeds p).1) q (now.0 h)),
      (λ r. now.1 (reached_more leads _ _ (λ p. (seeds p).0) q r)),
    ))
