use Rattle.std.proofs.Common.{◌+◌, ◌*◌, inl, inr, arith}
use Rattle.std.proofs.lemmas.Bool.{cases_lt}
use Rattle.reach.proofs.Carries.{none_past}
use Rattle.reach.proofs.columns.between.Goals as goal

pub returns : goal.returns
returns g c = λ k. (
  (λ h. let parts = (c.both.ensures k).0 h in let before = (c.later.ensures k).0 parts.0 in (before.1.0, before.1.1, ((c.earlier.ensures k).0 parts.1).1)),
  (λ (some, before, after). elim (cases_lt k (64 * g.row.N)) [
    | inl low ↦ (c.both.ensures k).1 ((c.later.ensures k).1 (low, (some, before)), (c.earlier.ensures k).1 (low, after))
    | inr past ↦ absurd (none_past c.args.row.now g.row.N (k + 1) c.told-row (omega arith) after)
  ]),
)
