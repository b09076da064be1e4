-- A text in three parts, each of which one call writes. A call that fails left a beginning of its part after the parts before it, which is a
-- beginning of the whole text too (`WrittenTexts.antt` of `devices`).
use Rattle.std.proofs.Common.{◌≡◌, ℕ, List, ◌++◌, Ok, Err}
use Rattle.std.specs.Prelude.{IsErr}
use Rattle.devices.specs.declared.device.Sink as sink
use Rattle.devices.specs.declared.device.DeviceFault.{DeviceFault}
use Rattle.devices.specs.Writing.{Writes}
use Rattle.devices.proofs.WrittenTexts.{Answer, Part, Whole, handed_as, handed_both, handed_part, passed_on}

module _ {W : Type 0} {w : sink.Ghosts W} (a b c all : List ℕ) (is : a ++ b ++ c ≡ all) where
  pub first_cut : {s t : W} {e : DeviceFault} {r : Answer} → IsErr r → Part w s t a e → Writes w s t all r
  first_cut {s} {t} {e} {r} failed p = passed_on s t all e r failed (handed_as s t _ all _ is (handed_part s t (a ++ b) c e (handed_part s t a b e p)))

  pub second_cut : {s t u : W} {x : Unit {0}} {e : DeviceFault} {r : Answer} → IsErr r → Whole w s t a x → Part w t u b e → Writes w s u all r
  second_cut {s} {t} {u} {x} {e} {r} failed p q =
      passed_on s u all e r failed (handed_as s u _ all _ is (handed_part s u (a ++ b) c e (handed_both s t u a b x (Err e) p q)))

  pub all_written : {s t u v : W} {x y : Unit {0}} {r : Answer} → Whole w s t a x → Whole w t u b y → Writes w u v c r → Writes w s v all r
  all_written {s} {t} {u} {v} {x} {y} {r} p q last = handed_as s v _ all r is (handed_both s u v (a ++ b) c y r (handed_both s t u a b x (Ok y) p q) last)
