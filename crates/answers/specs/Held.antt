-- The values that reading holds, as what they say: lines, and the rest of a text.
use Rattle.std.specs.Prelude.{◌≡◌, ℕ, ◌+◌, ◌<◌, Bool, List, [], ◌∷◌, ◌++◌, filter, length, codes}
use Rattle.bstr.specs.Text.{lines_of}
use Rattle.lines.specs.Lines.{IsFirstLine, IsLineCut, lines_in}
use Rattle.lines.specs.Starts.{AllBeginOutside}
use Rattle.answers.specs.declared.line.Left.{Left}
use Rattle.answers.specs.declared.line.NumberedLine.{NumberedLine}
use Rattle.answers.specs.Grammar.{Line, NoneEnds, is_kept, numbered}

-- The line of the grammar that a held line is.
abbrev pub said_line : NumberedLine → Line
said_line l = record { number = l.number; text = l.text.now }

-- The kept lines of bytes whose lines follow line n.
abbrev pub kept_after : ℕ → List ℕ → List Line
kept_after n bytes = filter is_kept (numbered (n + 1) (lines_in bytes))

-- The kept lines of the rest of a text.
abbrev pub kept_in : Left → List Line
kept_in l = kept_after l.before l.text.now

-- The number of lines of a text, by its rest.
abbrev pub line_count : Left → ℕ
line_count l = l.before + length (lines_in l.text.now)

-- The lines are skipped up to the first that begins with a byte of the class.
pub record IsSkipped (class : ℕ → Bool) (lines left : Left) : Type 0 where
  pub front : List ℕ
  pub cut : IsLineCut lines.text.now front left.text.now
  pub some : 0 < length left.text.now
  pub others : AllBeginOutside class (lines_in front)
  pub number : left.before ≡ lines.before + length (lines_of front)

-- The line is the first that begins with a byte of the class. The text goes on with it at one place, and with the rest after it.
pub record IsFound (class : ℕ → Bool) (lines found : Left) (line : NumberedLine) (rest : Left) : Type 0 where
  pub skipped : IsSkipped class lines found
  pub first : IsFirstLine found.text.now line.text.now rest.text.now
  pub number : line.number ≡ found.before + 1
  pub before : rest.before ≡ found.before + 1

-- After this number of lines, the first line of the bytes that is neither empty nor a comment is this one: at the beginning of `from`, with
-- `rest` after it.
pub record IsNextKept (before : ℕ) (bytes from line rest : List ℕ) (next : ℕ) : Type 0 where
  pub skipped : List ℕ
  pub cut : IsLineCut bytes skipped from
  pub comments : kept_after before skipped ≡ []
  pub first : IsFirstLine from line rest
  pub number : next ≡ before + length (lines_in skipped) + 1

-- No line is kept.
abbrev pub AreNone : List Line → Type 0
AreNone lines = lines ≡ []

-- The text is cut after lines of which the kept ones have this property.
pub record HasPassed (P : List Line → Type 0) (lines left : Left) : Type 0 where
  pub passed : List ℕ
  pub cut : IsLineCut lines.text.now passed left.text.now
  pub number : left.before ≡ lines.before + length (lines_of passed)
  pub kept : P (kept_after lines.before passed)

-- The text is cut into the lines before the first `end`, which `from` begins with, and the rest after it.
pub record IsCutAtEnd (left : Left) (body : List ℕ) (from rest : Left) : Type 0 where
  pub cut : IsLineCut left.text.now body from.text.now
  pub first : IsFirstLine from.text.now (codes "end") rest.text.now
  pub number : rest.before ≡ left.before + length (lines_in body) + 1
  pub last : Line
  pub kept : kept_in left ≡ kept_after left.before body ++ last ∷ kept_in rest
  pub goes_on : NoneEnds (kept_after left.before body)
  pub ends : last.text ≡ codes "end"
  pub count : line_count rest ≡ line_count left
  pub within : left.before + length (lines_of body) < line_count left
  pub shorter : length rest.text.now < length left.text.now
