-- The texts of cells in a line, each between two others.
use Rattle.std.specs.Prelude.{◌≡◌, ◌≤◌, ℕ, List, ◌∷◌, ◌++◌, drop}
use Rattle.answers.specs.Grammar.{cell_text, numeral}
use Rattle.answers.specs.declared.cells.Tail.{Tail}
use Rattle.answers.specs.declared.pattern.Coord.{Coord}

-- The text of a cell between two texts.
abbrev pub between : List ℕ → List ℕ → Coord → List ℕ
between before after c = before ++ (cell_text c ++ after)

-- At the end of its buffer, the tail has a comma, its row and the text after a cell. That takes at most 11 bytes.
pub record IsTail (after : List ℕ) (tail : Tail) : Type 0 where
  pub low : 5 ≤ tail.start
  pub high : tail.start ≤ 16
  pub text : drop tail.start tail.text ≡ 44 ∷ (numeral tail.row ++ after)
