-- The cell is on the grid, so its row is one of the rows. That row gets one more bit, and no other row changes, so the bits of all rows
-- are the old ones and the cell's (`cell_added` in `Written.antt`).
use Rattle.std.proofs.Common.{◌≡◌, [], ap, refl, sym, ◌∙◌, arith}
use Rattle.std.specs.Prelude.{◌⊎◌, ◌↔◌}
use Rattle.std.proofs.lemmas.List.{get_or_read}
use Rattle.cellset.specs.Cell.{IsOn}
use Rattle.cellset.specs.CellSet.{CellsOn, Has}
use Rattle.cellset.specs.declared.cell.Cell.{Cell}
use Rattle.cellset.proofs.Truth.{either}
use Rattle.reach.specs.RowSet.{members_in}
use Rattle.reach.specs.BitRows.{InRows}
use Rattle.reach.specs.Rows.{cells_in, rows_in}
use Rattle.reach.proofs.Sets.{has_is}
use Rattle.reach.proofs.Widths.{Changed, cell_changed, members_changed, queued_more}
use Rattle.reach.proofs.rows.Rows.insert.Goals as goal
use Rattle.reach.proofs.rows.Rows.insert.Goals.{in-Narrow, in-Wide, in-Some, in_default}

on : (c : goal.Joined-self-2) → IsOn c.self.inside.shape c.args.cell
on c = rw (← (ap (λ (v : CellsOn). v.extent) c.self.view_is)) at c.requires

left : (c : goal.Joined-self-2) → Changed c.match-self.self-inside.shape c.match-self.self-inside.rows
    (λ q. InRows (rows_in c.self.inside.rows) q ⊎ (q ≡ c.args.cell))
left c = elim c.match-self.branch [
  | in-Narrow w ↦
      let items = w.in-Narrow.rows.items in
      let within = on c in
      let are = rw w.in-Narrow.is at c.self.invariant.0 in
      rw (w.self-inside-is, w.in-Narrow.is) (cell_changed 1 c.self.inside.shape items c.row.result w.insert.new.row c.args.cell are (on c) c.row.ensures
      (rw (get_or_read items c.row.result _ (omega arith) w.index_mut.ensures.value [], c.column.ensures) at w.insert.ensures))
  | in-Wide w ↦
      let items = w.in-Wide.rows.items in
      let within = on c in
      let are = rw w.in-Wide.is at c.self.invariant.0 in
      rw (w.self-inside-is, w.in-Wide.is) (cell_changed 4 c.self.inside.shape items c.row.result w.insert-in-Wide.new.row c.args.cell are (on c) c.row.ensures
      (rw (get_or_read items c.row.result _ (omega arith) w.index_mut-in-Wide.ensures.value [], c.column.ensures) at w.insert-in-Wide.ensures))
]

kept : (c : goal.Joined-self-2) → (c.match-self.self-inside.shape ≡ c.self.inside.shape) × (c.match-self.self-inside.occupied ≡ c.self.inside.occupied)
kept c = elim c.match-self.branch [
  | in-Narrow w ↦ rw w.self-inside-is (refl, refl)
  | in-Wide w ↦ rw w.self-inside-is (refl, refl)
]

more : (c : goal.Joined-self-2) (q : Cell) → Has (members_in c.match-self.self-inside.shape (rows_in c.match-self.self-inside.rows)) q
    ↔ (Has (members_in c.self.inside.shape (rows_in c.self.inside.rows)) q ⊎ (q ≡ c.args.cell))
more c q =
    let now = members_changed _ _ _ (left c) q in
    let was = has_is _ _ c.self.invariant.0.on q in
    grind (arith, either)

pub invariant_of-self : goal.invariant_of-self
invariant_of-self c = elim c.match-self-2.branch [
  | in-Some w ↦ rw w.self-inside-is (
    (left c).0,
    queued_more (cells_in c.self.inside.shape c.self.inside.rows) _ c.args.cell w.in-Some.occupied.words _ (kept c).0 (on c)
        (λ q. (more c q).0) (rw c.row.ensures at w.add.ensures.added) (rw (sym (kept c).1 ∙ w.in-Some.is) at c.self.invariant.1),
  )
  | in_default w ↦ rw w.self-inside-is ((left c).0, grind arith)
]

pub returns-clause-members : goal.returns-clause-members
returns-clause-members c = rw (← c.self.view_is) (elim c.match-self-2.branch [
  | in-Some w ↦ rw w.self-inside-is (more c)
  | in_default w ↦ rw w.self-inside-is (more c)
])
