use Rattle.std.proofs.Common.{arith}
use Rattle.cellset.specs.CellSet.{Has}
use Rattle.reach.proofs.Sets.{loaded_same}
use Rattle.reach.proofs.Widths.{Changed, set_changed, slice_changed}
use Rattle.reach.proofs.rows.Rows.load.Goals as goal
use Rattle.reach.proofs.rows.Rows.load.Goals.{in-Narrow, in-Wide}

module _ (g : _) (c : goal.Joined-self g) where
  left : Changed c.match-self.self-inside.shape c.match-self.self-inside.rows (Has (g.S.CellSet.members c.args.cells.now))
  left = elim c.match-self.branch [
    | in-Narrow w ↦
        let rows = w.in-Narrow.rows in
        rw w.self-inside-is (slice_changed 1 c.self.inside.shape rows.len rows.items w.load.new.rows _ rows.ok.0 (rw w.in-Narrow.is at c.self.invariant.0)
        (grind arith) (grind arith) (grind (arith, loaded_same)))
    | in-Wide w ↦
        let rows = w.in-Wide.rows in
        rw w.self-inside-is (slice_changed 4 c.self.inside.shape rows.len rows.items w.load-in-Wide.new.rows _ rows.ok.0 (rw w.in-Wide.is at c.self.invariant.0)
        (grind arith) (grind arith) (grind (arith, loaded_same)))
  ]

pub invariant_of-self : goal.invariant_of-self
invariant_of-self g c = (
  (left g c).0,
  elim c.match-self.branch [
    | in-Narrow w ↦ rw w.self-inside-is tt
    | in-Wide w ↦ rw w.self-inside-is tt
  ],
)

pub returns-clause-members : goal.returns-clause-members
returns-clause-members g c = set_changed _ _ _ (left g c)
