-- The levels of a text: its longest runs of board lines.
use Rattle.std.specs.Prelude.{◌≡◌, ℕ, ◌<◌, ◌≤◌, Bool, true, false, ◌&&◌, List, [], ◌∷◌, ◌++◌, length, take, All}
use Rattle.std.specs.List.{list_any, list_all}
use Rattle.board.specs.Characters.{is_wall, is_board_character}
use Rattle.lines.specs.Lines.{IsLineCut, lines_in}
use Rattle.board.specs.Lines.{byte_at}

-- the most levels that a collection may have
abbrev pub most_levels : ℕ
most_levels = 10000

-- a board line has a wall, and board characters alone
abbrev pub is_board_line : List ℕ → Bool
is_board_line line = list_any is_wall line && list_all is_board_character line

-- a text begins with n board characters and not with more, and the test says whether a wall is among them
pub record IsFront (text : List ℕ) (n : ℕ) (has_wall : Bool) : Type 0 where
  pub within : n ≤ length text
  pub board : list_all is_board_character (take n text) ≡ true
  pub ends : is_board_character (byte_at text n) ≡ false
  pub wall : has_wall ≡ list_any is_wall (take n text)

-- the line can be a row of a level
abbrev pub IsBoardLine : List ℕ → Type 0
IsBoardLine line = is_board_line line ≡ true

-- the line is text: it can't be a row of a level
abbrev pub IsText : List ℕ → Type 0
IsText line = is_board_line line ≡ false

-- the lines are the rows of a level: board lines, at least one
pub record IsRun (rows : List (List ℕ)) : Type 0 where
  pub some : 0 < length rows
  pub board : All IsBoardLine rows

-- the lines don't begin with a board line
abbrev pub EndsRun : List (List ℕ) → Type 0
EndsRun [] = Unit {0}
EndsRun (line ∷ _) = IsText line

-- the first run of board lines among some lines, as long as it can be, and the lines after it
pub record IsFirstRun (lines rows after : List (List ℕ)) : Type 0 where
  pub before : List (List ℕ)
  pub whole : lines ≡ before ++ (rows ++ after)
  pub text : All IsText before
  pub run : IsRun rows
  pub longest : EndsRun after

-- the levels of some lines, in order: the first run and then the levels of the lines after it; none if all lines are text
abbrev pub AreLevelsOf : List (List (List ℕ)) → List (List ℕ) → Type 0
AreLevelsOf [] lines = All IsText lines
AreLevelsOf (rows ∷ levels) lines = (after : List (List ℕ)) × IsFirstRun lines rows after × AreLevelsOf levels after

-- the first level of a text has these rows: `from` begins with it, and `after` comes after its last row
pub record IsNextLevel (text from : List ℕ) (rows : List (List ℕ)) (after : List ℕ) : Type 0 where
  pub before : List ℕ
  pub level : List ℕ
  pub begins : IsLineCut text before from
  pub ends : IsLineCut from level after
  pub text_before : All IsText (lines_in before)
  pub rows_are : rows ≡ lines_in level
  pub run : IsRun rows
  pub longest : EndsRun (lines_in after)
