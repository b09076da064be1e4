-- Where the levels of a text are.
--   span    the offset of a level's first byte, and that of the byte after its last row
--   total   the length of the text; bytes that end it begin at `total` less their length
use Rattle.std.specs.Prelude.{◌≡◌, ℕ, ◌+◌, List, [], ◌∷◌, length, All}
use Rattle.lines.specs.Lines.{lines_in}
use Rattle.board.specs.Levels.{AreLevelsOf, IsNextLevel, IsText}
use Rattle.board.specs.Lines.{without_mark}
use Rattle.sokoaudit_c.specs.Outcome.{Holds}
use Rattle.sokoaudit_c.specs.declared.spans.Span.{Span}

-- the first level of bytes that end the text is at this span, and has these rows; `from` begins with it
pub record IsNextSpan (total : ℕ) (bytes : List ℕ) (span : Span) (rows : List (List ℕ)) (after : List ℕ) : Type 0 where
  pub from : List ℕ
  pub next : IsNextLevel bytes from rows after
  pub at : span.at + length from ≡ total
  pub end_at : span.end + length after ≡ total

-- bytes that end the text have these levels, in order, at these spans
abbrev pub AreSpansOf : ℕ → List ℕ → List Span → List (List (List ℕ)) → Type 0
AreSpansOf total bytes [] [] = All IsText (lines_in bytes)
AreSpansOf total bytes (span ∷ spans) (rows ∷ levels) = (after : List ℕ) × IsNextSpan total bytes span rows after × AreSpansOf total after spans levels
AreSpansOf total bytes _ _ = ⊥

-- there are this many levels in the text, and the new spans are theirs, up to the last one that there is space for
pub record HasSpans (text : List ℕ) (old new : List Span) (count : ℕ) : Type 0 where
  pub levels : List (List (List ℕ))
  pub spans : List Span
  pub levels_are : AreLevelsOf levels (lines_in (without_mark text))
  pub spans_are : AreSpansOf (length text) (without_mark text) spans levels
  pub number : count ≡ length levels
  pub written : Holds old new spans
