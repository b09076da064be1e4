-- Two equivalences make one.
use Rattle.std.specs.Prelude.{◌↔◌}

pub through : {A B C : Type 0} → A ↔ B → B ↔ C → A ↔ C
through f g = ((λ a. g.0 (f.0 a)), (λ c. f.1 (g.1 c)))
