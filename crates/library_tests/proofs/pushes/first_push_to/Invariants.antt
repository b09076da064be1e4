use Rattle.std.proofs.Common.{◌≡◌}
use Rattle.std.specs.List.{Contains}
use Rattle.reach.specs.declared.pushes.Push.{Push}
use Rattle.library_tests.proofs.pushes.first_push_to.Given as goal

abbrev pub invariant-loop-push : goal.invariant-loop-push
invariant-loop-push g l = (q : Push) → Contains l.yielded q → q.to ≡ l.cell → ⊥
