use Rattle.std.proofs.{Common.subst, lemmas.Bool.false≢true}
use Rattle.cellset.{specs.CellSet.Has, proofs.Members.has_empty}
use Rattle.closure.proofs.tables.Tables.is_on_trap.Goals as goal

pub returns-then-self : goal.returns-then-self
returns-then-self g c = (
  λ h. absurd (false≢true h),
  λ has. absurd (has_empty c.args.cell (subst (λ s. Has s c.args.cell) (c.requires.trapless c.if-self.true) has)),
)
