use Rattle.std.{proofs.Common.◌≡◌, proofs.Common.Bool, proofs.Common.true, proofs.Common.false, specs.Prelude.MatchBool, proofs.lemmas.Bool.false≢true}
use Rattle.closure.proofs.tables.Tables.build.Goals as goal

if_true : (b : Bool) (A B : Type 0) → b ≡ true → MatchBool b A B → A
if_true true A B h m = m
if_true false A B h m = absurd (false≢true h)

pub find_regions-requires-clause-lawful : goal.find_regions-requires-clause-lawful
find_regions-requires-clause-lawful g c = rw c.in_ok-groups.ensures.same c.requires.lawful

pub returns-clause-tables : goal.returns-clause-tables
returns-clause-tables g c = record {
  formed = c.shape-shape.ensures.formed;
  lawful = rw c.in_ok-groups.ensures.same c.requires.lawful;
  trap = rw c.in_ok-groups.ensures.same c.requires.trap;
  trapless = λ h. if_true c.is_empty.result _ _ h c.is_empty.ensures;
  grouped = c.in_ok-groups.ensures.groups;
  regions = c.in-Ok.ensures;
}
