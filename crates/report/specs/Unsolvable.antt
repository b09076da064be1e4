-- What a line `level n unsolvable ..` claims of the rows of level n.
use Rattle.std.specs.Prelude.{ℕ, List}
use Rattle.board.specs.Game.{Level, Solvable}
use Rattle.board.specs.Rows.{Draws}

-- no list of directions, of any length, solves the level that the rows draw
abbrev pub IsUnsolvable : List (List ℕ) → Type 0
IsUnsolvable rows = (level : Level) × Draws rows level × (Solvable level → ⊥)
