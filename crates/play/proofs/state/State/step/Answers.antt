use Rattle.std.proofs.Common.{rules, arith}
use Rattle.std.proofs.lemmas.Grind.{common_steps}
use Rattle.play.proofs.Steps.{push_no_wall}
use Rattle.play.proofs.state.State.step.Goals as goal

pub returns-in-Some-free_behind-clause-wall : goal.returns-in-Some-free_behind-clause-wall
returns-in-Some-free_behind-clause-wall g c = search (rules, push_no_wall)

pub returns-then-not-contains-clause-blocked : goal.returns-then-not-contains-clause-blocked
returns-then-not-contains-clause-blocked g c = grind (arith, common_steps)

pub returns-then-contains-clause-blocked : goal.returns-then-contains-clause-blocked
returns-then-contains-clause-blocked g c = grind (arith, common_steps)
