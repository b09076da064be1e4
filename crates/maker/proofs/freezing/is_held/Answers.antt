use Rattle.std.proofs.lemmas.Bool.{false≢true}
use Rattle.maker.proofs.freezing.is_held.Goals as goal

pub returns-then-not-is_held_toward : goal.returns-then-not-is_held_toward
returns-then-not-is_held_toward g c =
    record { held = λ e. absurd (false≢true e); loose = λ _. (_, c.is_held_toward.ensures.loose c.if-not-is_held_toward.true) }
