-- The kinds of the characters of a board (`Rows.antt`), as tests of a byte.
use Rattle.std.specs.Prelude.{ℕ, Bool, codes}
use Rattle.board.specs.Rows.{is_one_of}

-- the byte is a wall
abbrev pub is_wall : ℕ → Bool
is_wall = is_one_of (codes "#")

-- the byte is a player, or a player on a goal
abbrev pub is_player : ℕ → Bool
is_player = is_one_of (codes "@+")

-- the byte is a box, or a box on a goal
abbrev pub is_box : ℕ → Bool
is_box = is_one_of (codes "$*")

-- the byte is a goal, alone or under a box or a player
abbrev pub is_goal : ℕ → Bool
is_goal = is_one_of (codes ".*+")

-- a space, the character of every column past the end of a row
abbrev pub space : ℕ
space = 0x20

-- the byte is a wall, a player, a box, a goal, or a space, `-` or `_`, which mean floor with nothing on it
abbrev pub is_board_character : ℕ → Bool
is_board_character = is_one_of (codes "#@+$*. -_")
