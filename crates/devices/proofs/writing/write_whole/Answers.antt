use Rattle.std.proofs.Common.{◌+◌, ◌-◌, ℕ, List, length, take, drop, rules, subst, sym, take_all}
use Rattle.std.specs.Prelude.{Option}
use Rattle.std.specs.Io.KnownBytes.{Appends}
use Rattle.std.proofs.KnownBytes.{Appends-trans}
use Rattle.std.proofs.Math.Seq.{take-add}
use Rattle.std.proofs.lemmas.List.{take_rest}
use Rattle.devices.proofs.writing.write_whole.Goals as goal

-- The text that was written so far grows by the bytes that the next write took.
next : (u v w : Option (List ℕ)) (text : List ℕ) (at n : ℕ) → Appends u v (take at text)
    → Appends v w (take n (take (length text - at) (drop at text))) → Appends u w (take (at + n) text)
next u v w text at n p q = subst (Appends u w) (sym (take-add at n text)) (Appends-trans u v w _ _ p (rw (take_rest text at) at q))

pub loop-at-preserved : goal.loop-at-preserved
loop-at-preserved g c = search (rules, next)

pub returns : goal.returns
returns g c = record {
  wrote = rw (take_all c.loop-at.at c.args.text.now c.loop-at-test.false) at c.loop-at.invariant.1;
  beginning = tt;
  cause = c.loop-at.invariant.2;
}
