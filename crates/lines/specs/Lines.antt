-- The lines of a text, and cuts between them.
use Rattle.std.specs.Prelude.{◌≡◌, ◌<◌, ℕ, List, [], ◌∷◌, ◌++◌, map, length}
use Rattle.bstr.specs.Text.{lines_of, without_terminator}

-- The lines of a text. A line ends with a line feed. Neither the line feed nor a carriage return right before it is part of the
-- line. Bytes after the last line feed are a line, if there are any.
abbrev pub lines_in : List ℕ → List (List ℕ)
lines_in text = map without_terminator (lines_of text)

-- The bytes are whole lines, whatever follows them.
abbrev pub AreWholeLines : List ℕ → Type 0
AreWholeLines bytes = (more : List ℕ) → lines_of (bytes ++ more) ≡ lines_of bytes ++ lines_of more

-- The text is cut between two of its lines, or at one of its ends.
pub record IsLineCut (text front rest : List ℕ) : Type 0 where
  pub parts : text ≡ front ++ rest
  pub whole : 0 < length rest → AreWholeLines front

-- The text begins with this line, which is given without its end, and goes on with the rest.
pub record IsFirstLine (text line rest : List ℕ) : Type 0 where
  pub ended : List ℕ
  pub cut : IsLineCut text ended rest
  pub alone : lines_of ended ≡ ended ∷ []
  pub content : line ≡ without_terminator ended
