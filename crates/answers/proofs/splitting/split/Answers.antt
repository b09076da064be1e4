use Rattle.std.proofs.Common.{map}
use Rattle.answers.specs.Reading.{entry_of}
use Rattle.answers.proofs.BodyLines.{records_found, records_only}
use Rattle.answers.proofs.Outcome.{exact_by, found_by, only_by, refused_by}
use Rattle.answers.proofs.splitting.split.Goals as goal

pub returns-clause-found : goal.returns-clause-found
returns-clause-found c =
    records_found (λ v. v.items) c.args.text.now c.args.levels c.outcome.result
    (found_by (λ v. map entry_of v.items) c.args.text.now c.args.levels c.outcome.result c.outcome.ensures.gives)

pub returns-clause-only : goal.returns-clause-only
returns-clause-only c = λ entries spelled.
    records_only (λ v. v.items) entries c.outcome.result
    (only_by (λ v. map entry_of v.items) c.args.text.now c.args.levels c.outcome.result c.outcome.ensures.gives entries spelled)

pub returns-clause-exact : goal.returns-clause-exact
returns-clause-exact c = exact_by (λ v. map entry_of v.items) c.args.text.now c.args.levels c.outcome.result c.outcome.ensures.gives

pub returns-clause-refused : goal.returns-clause-refused
returns-clause-refused c = refused_by (λ v. map entry_of v.items) c.args.text.now c.args.levels c.outcome.result c.outcome.ensures.gives
