-- The invariant says that the first `taken` bytes of the buffer are the bytes that the source lost, that the buffer has at most one byte
-- more than a text may have, and that no read failed. A read keeps these first bytes, and after them it puts the bytes that it takes from
-- the source (`read_after`). If a read returns no bytes, the source is at its end, so the first bytes are all that it had. If the loop
-- ends, more bytes were taken than a text may have, so the source had too many.
use Rattle.std.proofs.Common.{◌≡◌, ◌+◌, ℕ, List, arith, drop, rules, subst, sym, take}
use Rattle.std.specs.Prelude.{Option}
use Rattle.std.specs.Io.KnownBytes.{Consumes}
use Rattle.std.proofs.KnownBytes.{Consumes-trans, Consumes-kept}
use Rattle.std.proofs.Math.Seq.{take-add}
use Rattle.std.proofs.lemmas.List.{length-take}
use Rattle.devices.proofs.reading.read_whole.Goals as goal

-- A read put `count` bytes after the first `taken` bytes, which stayed.
read_after : (u v w : Option (List ℕ)) (old new : List ℕ) (taken count : ℕ) → take taken new ≡ take taken old
    → Consumes u v (take taken old) → Consumes v w (take count (drop taken new)) → Consumes u w (take (taken + count) new)
read_after u v w old new taken count front before more = subst (Consumes u w) (sym (take-add taken count new)) (Consumes-trans u v w _ _ (rw front before) more)

pub pulls-preserved : goal.pulls-preserved
pulls-preserved g c = search (rules, read_after)

pub returns-in_err-count-clause-taken : goal.returns-in_err-count-clause-taken
returns-in_err-count-clause-taken g c =
    (_, omega (arith, length-take {A = ℕ}), Consumes-kept _ _ _ _ c.pulls.invariant.bytes c.in_err-count.ensures.same)

pub returns-clause-taken : goal.returns-clause-taken
returns-clause-taken g c = (_, omega (arith, length-take c.pulls.taken c.pulls.text.items), c.pulls.invariant.bytes)

pub returns-then-count-eq0-clause-taken : goal.returns-then-count-eq0-clause-taken
returns-then-count-eq0-clause-taken g c =
    let more = c.in_ok-count.ensures in (
      _,
      omega (arith, length-take {A = ℕ}),
      read_after _ _ _ c.pulls.text.items c.pull_after.new.text.items c.pulls.taken c.in_ok-count.count more.front
          c.pulls.invariant.bytes more.bytes,
    )
