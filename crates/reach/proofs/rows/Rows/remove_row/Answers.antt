-- The row is one of the rows. It loses the bits, and no other row changes, so the bits of all rows are the old ones without the cells of
-- the part (`cells_removed` in `Written.antt`).
use Rattle.std.proofs.Common.{◌≡◌, ◌≤◌, [], refl, ap, arith}
use Rattle.std.proofs.lemmas.List.{get_or_read}
use Rattle.cellset.specs.CellSet.{CellsOn, Has, Lacks}
use Rattle.cellset.specs.RowBits.{cells_of_row}
use Rattle.cellset.specs.declared.cell.Cell.{Cell}
use Rattle.reach.specs.BitRows.{InRows}
use Rattle.reach.specs.RowSet.{members_in}
use Rattle.reach.specs.Rows.{cells_in, rows_in}
use Rattle.reach.proofs.Sets.{has_is}
use Rattle.reach.proofs.Widths.{Changed, members_changed, occupied_fewer, part_changed}
use Rattle.reach.proofs.rows.Rows.remove_row.Goals as goal
use Rattle.reach.proofs.rows.Rows.remove_row.Goals.{in-Narrow, in-Wide}

high : (c : goal.Joined-self) → c.args.row ≤ c.self.inside.shape.height
high c = rw (← (ap (λ (v : CellsOn). v.extent) c.self.view_is)) at c.requires.0

left : (c : goal.Joined-self) → Changed c.match-self.self-inside.shape c.match-self.self-inside.rows
    (λ q. InRows (rows_in c.self.inside.rows) q × Lacks (cells_of_row c.args.row c.args.part c.args.bits) q)
left c = elim c.match-self.branch [
  | in-Narrow w ↦
      let items = w.in-Narrow.rows.items in
      let within = high c in
      let are = rw w.in-Narrow.is at c.self.invariant.0 in
      rw (w.self-inside-is, w.in-Narrow.is) (part_changed 1 c.self.inside.shape items c.args.row c.args.part c.args.bits w.remove.new.row are (high c)
      (rw (get_or_read items c.args.row _ (omega arith) w.index_mut.ensures.value []) at w.remove.ensures))
  | in-Wide w ↦
      let items = w.in-Wide.rows.items in
      let within = high c in
      let are = rw w.in-Wide.is at c.self.invariant.0 in
      rw (w.self-inside-is, w.in-Wide.is) (part_changed 4 c.self.inside.shape items c.args.row c.args.part c.args.bits w.remove-in-Wide.new.row are (high c)
      (rw (get_or_read items c.args.row _ (omega arith) w.index_mut-in-Wide.ensures.value []) at w.remove-in-Wide.ensures))
]

kept : (c : goal.Joined-self) → (c.match-self.self-inside.shape ≡ c.self.inside.shape) × (c.match-self.self-inside.occupied ≡ c.self.inside.occupied)
kept c = elim c.match-self.branch [
  | in-Narrow w ↦ rw w.self-inside-is (refl, refl)
  | in-Wide w ↦ rw w.self-inside-is (refl, refl)
]

pub invariant_of-self : goal.invariant_of-self
invariant_of-self c =
    let fewer : (q : Cell) → Has (members_in c.match-self.self-inside.shape (rows_in c.match-self.self-inside.rows)) q
    → Has (members_in c.self.inside.shape (rows_in c.self.inside.rows)) q = λ q h. (has_is _ _ c.self.invariant.0.on q).1 ((members_changed _ _ _ (left c) q).0 h).0 in
    ((left c).0, rw (kept c).1 (occupied_fewer (cells_in c.self.inside.shape c.self.inside.rows) _ _ (kept c).0 fewer c.self.invariant.1))

pub returns-clause-members : goal.returns-clause-members
returns-clause-members c = rw (← c.self.view_is) (λ q.
    let now = members_changed _ _ _ (left c) q in
    let was = has_is _ _ c.self.invariant.0.on q in
    grind arith)
