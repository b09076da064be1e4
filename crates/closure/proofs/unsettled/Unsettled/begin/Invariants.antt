use Rattle.std.proofs.Common.{◌≡◌, ◌⊎◌, ℕ, ◌<◌}
use Rattle.std.specs.List.{Contains}
use Rattle.reach.specs.declared.pushes.Push.{Push}
use Rattle.certificates.specs.CellLists.{cell_no}
use Rattle.closure.specs.Settling.{AreOpen, IsPushOut, IsSettled}
use Rattle.closure.proofs.unsettled.Unsettled.begin.Given as goal

abbrev pub invariant-loop-number : goal.invariant-loop-number
invariant-loop-number g l = record {
  away : AreOpen l.task l.self.away;
  here : l.self.here ≡ l.fn.self.here;
  all : (i : ℕ) → i < l.number → (push : Push) → IsPushOut l.task push → push.from ≡ cell_no l.task.boxes.now i
      → Contains l.self.away.pushes push ⊎ IsSettled l.task push;
}
