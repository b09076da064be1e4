use Rattle.std.proofs.Common.{◌≡◌, true, false, refl}
use Rattle.std.specs.Prelude.{◌↔◌, IsTrue, MatchBool}
use Rattle.std.proofs.lemmas.Bool.{false≢true}
use Rattle.std.specs.FinSet as set
use Rattle.std.specs.FinSet.{contains}
use Rattle.cellset.specs.CellSet.{Has}
use Rattle.cellset.specs.declared.cell.Cell.{Cell}
use Rattle.cellset.proofs.Members.{has_or_lacks, has_empty, not_both}
use Rattle.reach.specs.Reached.{Reached, at_seed, by_step, IsClosedUnder}
use Rattle.reach.proofs.Chains.{reached_within}
use Rattle.reach.proofs.rows.Rows.is_closed.Goals as goal

pub returns : goal.returns
returns g c =
    let cells = c.args.self.now.members in
    let more = c.subtract.new.self.members in
    let leads = g.T.StepKind.leads (contains c.args.free.now.members) in
    let grown : (q : Cell) → Has c.grow.new.self.members q ↔ Reached leads (Has cells) q = rw c.copy_from.ensures.members at c.grow.ensures.exact in
    elim c.is_empty.result as (λ b. MatchBool b (more ≡ set.empty) ((q : Cell) × Has more q) → IsTrue b ↔ IsClosedUnder leads (Has cells)) [
      | true ↦ λ none. (
        (λ _ p q here step. has_or_lacks cells q (λ has. has) (λ lacks.
            has_empty q (rw none at ((c.subtract.ensures.members q).1 ((grown q).1 (by_step p (at_seed here) step), λ has. not_both cells q has lacks))))),
        (λ _. refl),
      )
      | false ↦ λ (q, has). (
        (λ no. absurd (false≢true no)),
        (λ closed. let (is, out) = (c.subtract.ensures.members q).0 has in absurd (out (reached_within leads (Has cells) closed q ((grown q).0 is)))),
      )
    ] c.is_empty.ensures
