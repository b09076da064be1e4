-- What the records of an answers text say.
--   entry      the number of a level, and what a record says of it
--   body       letter lines, patterns, a zone, or the first line that isn't allowed at its place
use Rattle.std.specs.Prelude.{ℕ, List, Option}
use Rattle.answers.specs.declared.pattern.Coord.{Coord}
use Rattle.answers.specs.declared.record.BadLineWhy.{BadLineWhy}

-- A pattern as its line spells it: its boxes and its seeds, where `None` is the room without the boxes.
pub record PatternLine : Type 0 where
  pub line : ℕ
  pub boxes : List Coord
  pub seeds : Option (List Coord)

-- A zone as its line spells it.
pub record ZoneLine : Type 0 where
  pub line : ℕ
  pub cells : List Coord

-- What a record says of its level.
pub data Body : Type 0 where
  LetterLines : List (List ℕ) → Body
  PatternLines : List PatternLine → Body
  OneZone : ZoneLine → Body
  FirstBad : ℕ → BadLineWhy → Body

-- The number of a level, and what a record says of the level.
pub record Entry : Type 0 where
  pub level : ℕ
  pub body : Body
