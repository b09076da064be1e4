-- A text that is cut after the board lines with which it begins, or after its first lines of text.
use Rattle.std.specs.Prelude.{◌≡◌, ℕ, List, length, All}
use Rattle.lines.specs.Lines.{IsLineCut}
use Rattle.board.specs.Lines.{lines_in}
use Rattle.board.specs.Levels.{EndsRun, IsBoardLine, IsText}
use Rattle.board.specs.Rows.{width_of}

-- The text is cut after all board lines with which it begins. They have this width and this height.
pub record IsRunCut (text : List ℕ) (width height : ℕ) (after : List ℕ) : Type 0 where
  pub run : List ℕ
  pub cut : IsLineCut text run after
  pub board : All IsBoardLine (lines_in run)
  pub longest : EndsRun (lines_in after)
  pub width_is : width ≡ width_of (lines_in run)
  pub height_is : height ≡ length (lines_in run)

-- The text is cut after lines of text.
pub record IsPassed (text after : List ℕ) : Type 0 where
  pub passed : List ℕ
  pub cut : IsLineCut text passed after
  pub text_passed : All IsText (lines_in passed)
