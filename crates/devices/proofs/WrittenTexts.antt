-- What calls do to a sink to which they write one text after another. If the first text was written whole, a call that writes
-- the second text has written both, whatever it returns: on a fault, a beginning of the second text after the whole first text
-- is a beginning of both. A call that failed in the first text left a beginning of any text that starts with it. In the same
-- way a loop that writes a text for each element of a list goes from the text of the elements before one to the text of the
-- elements up to it.
use Rattle.std.proofs.Common.{◌≡◌, ℕ, List, [], ◌∷◌, ◌++◌, ◌+◌, ◌<◌, Ok, Err, sym, ap, ◌∙◌, arith, length, take, drop, get_or, append-nil}
use Rattle.std.proofs.lemmas.Grind.{flat_map-append}
use Rattle.std.proofs.lemmas.List.{length-append, take-append-le, take_more, take-append-drop}
use Rattle.std.proofs.Math.Seq.{take-append-add}
use Rattle.std.specs.Prelude.{Option, Result, IsErr}
use Rattle.std.specs.List.{flat_map}
use Rattle.std.specs.Io.KnownBytes.{Appends}
use Rattle.std.proofs.KnownBytes.{Appends-trans}
use Rattle.devices.specs.declared.device.Sink as sink
use Rattle.devices.specs.declared.device.DeviceFault.{DeviceFault}
use Rattle.devices.specs.Device.{AppendsBeginning}
use Rattle.devices.specs.Writing.{Writes}

-- The result of a call that writes.
abbrev pub Answer : Type 0
Answer = Result (Unit {0}) DeviceFault

-- A beginning of a second text, after the whole first text, is a beginning of both.
pub then_beginning : (u v w : Option (List ℕ)) (a b : List ℕ) → Appends u v a → AppendsBeginning v w b → AppendsBeginning u w (a ++ b)
then_beginning u v w a b p (k, short, q) =
    let below : length a + k < length (a ++ b) = omega (arith, length-append a b) in
    let front = take-append-add a b k in
    (length a + k, below, rw front (Appends-trans u v w a (take k b) p q))

-- A beginning of a text is a beginning of each text that goes on from it.
pub beginning_of_more : (u v : Option (List ℕ)) (a b : List ℕ) → AppendsBeginning u v a → AppendsBeginning u v (a ++ b)
beginning_of_more u v a b (k, short, p) =
    let below : k < length (a ++ b) = omega (arith, length-append a b) in
    (k, below, rw (take-append-le k a b (omega arith)) p)

-- The whole text is written.
abbrev pub Whole : {W : Type 0} → sink.Ghosts W → W → W → List ℕ → Unit {0} → Type 0
Whole w s t a x = let r : Answer = Ok x in Writes w s t a r

-- A beginning of the text is written.
abbrev pub Part : {W : Type 0} → sink.Ghosts W → W → W → List ℕ → DeviceFault → Type 0
Part w s t a e = let r : Answer = Err e in Writes w s t a r

-- The first text is written whole, and then the second text.
pub handed_both : {W : Type 0} {w : sink.Ghosts W} (s t u : W) (a b : List ℕ) (x : Unit {0}) (r : Answer) → Whole w s t a x → Writes w t u b r
    → Writes w s u (a ++ b) r
handed_both {w = w} s t u a b x (Ok y) p q = record {
  wrote = Appends-trans (w.held s) (w.held t) (w.held u) a b p.wrote q.wrote;
  beginning = tt;
  cause = q.cause ∙ p.cause;
}
handed_both s t u a b x (Err e) p q = search (then_beginning)

-- What is written of a text that was cut short is a part of each text that goes on from it.
pub handed_part : {W : Type 0} {w : sink.Ghosts W} (s t : W) (a b : List ℕ) (e : DeviceFault) → Part w s t a e → Part w s t (a ++ b) e
handed_part s t a b e p = search (beginning_of_more)

-- A call that passes a fault on has written what the failed call wrote.
pub passed_on : {W : Type 0} {w : sink.Ghosts W} (s t : W) (a : List ℕ) (e : DeviceFault) (r : Answer) → IsErr r → Part w s t a e → Writes w s t a r
passed_on s t a e (Ok x) failed p = absurd (cc)
passed_on s t a e (Err f) failed p = search

-- What is written of a text is written of an equal text.
pub handed_as : {W : Type 0} {w : sink.Ghosts W} (s t : W) (a b : List ℕ) (r : Answer) → a ≡ b → Writes w s t a r → Writes w s t b r
handed_as s t a b r e p = grind arith

module _ {X W : Type 0} {w : sink.Ghosts W} (f : X → List ℕ) (xs : List X) (i : ℕ) where
  -- The text of one more element is written.
  pub handed_next : (d : X) {s t u : W} {x : Unit {0}} {r : Answer} → i < length xs → Whole w s t (flat_map f (take i xs)) x
      → Writes w t u (f (get_or xs i d)) r → Writes w s u (flat_map f (take (i + 1) xs)) r
  handed_next d {s} {t} {u} {x} {r} below p q =
      let split : flat_map f (take i xs) ++ f (get_or xs i d) ≡ flat_map f (take (i + 1) xs) =
      sym (ap (flat_map f) (take_more xs i d below) ∙ flat_map-append f (take i xs) (get_or xs i d ∷ [])
      ∙ ap (λ l. flat_map f (take i xs) ++ l) (append-nil (f (get_or xs i d)))) in
      handed_as _ _ _ _ _ split (handed_both s t u _ _ x r p q)

  -- The text of one more element, which was read, is written.
  pub handed_item : (y : X) (s t u : W) (x : Unit {0}) (r : Answer) → i < length xs → y ≡ get_or xs i y → Whole w s t (flat_map f (take i xs)) x
      → Writes w t u (f y) r → Writes w s u (flat_map f (take (i + 1) xs)) r
  handed_item y s t u x r below is p q = handed_next y below p (rw is at q)

  -- The texts up to one element's text, which was cut short, are a beginning of the texts of all elements.
  pub handed_some : (s u : W) (e : DeviceFault) → Part w s u (flat_map f (take (i + 1) xs)) e → Part w s u (flat_map f xs) e
  handed_some s u e p =
      let front = take (i + 1) xs in
      let rest = drop (i + 1) xs in
      let whole : flat_map f front ++ flat_map f rest ≡ flat_map f xs =
      sym (flat_map-append f front rest) ∙ ap (flat_map f) (take-append-drop (i + 1) xs) in
      handed_as _ _ _ _ _ whole (handed_part _ _ _ _ e p)
