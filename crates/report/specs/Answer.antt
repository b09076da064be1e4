-- The answer to a level.
use Rattle.std.specs.Prelude.{ℕ, ◌==◌, List, [], ◌∷◌, Option, None, Some, if◌then◌else◌}
use Rattle.answers.specs.Body.{Body, Entry}

-- the answer to the level of this number is the body of the record with this number, if there is one
abbrev pub answer_to : ℕ → List Entry → Option Body
answer_to n [] = None
answer_to n (e ∷ es) = if e.level == n then Some e.body else answer_to n es
