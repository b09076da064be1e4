use Rattle.std.{proofs.Common.ℕ, proofs.Common.◌<◌, specs.Prelude.IsTrue, specs.Prelude.false, specs.Prelude.slice_index_or}
use Rattle.closure.proofs.checking.are_all.Given as goal

abbrev pub invariant-loop-note : goal.invariant-loop-note
invariant-loop-note l = (g : ℕ) → g < l.note-index → IsTrue (slice_index_or l.covered g false)
