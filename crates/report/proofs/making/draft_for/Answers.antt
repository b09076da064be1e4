use Rattle.std.proofs.Common.{refl}
use Rattle.std.proofs.lemmas.Option.{MatchOption-at_some}
use Rattle.report.specs.Making.{IsFoundFor}
use Rattle.report.proofs.making.draft_for.Goals as goal

pub returns-in-Some-clause-some : goal.returns-in-Some-clause-some
returns-in-Some-clause-some c = record {
  number = refl;
  found = MatchOption-at_some _ (IsFoundFor c.args.level.now) c.in-Some.found c.in-Some.is c.in_ok-found.ensures.some;
}
