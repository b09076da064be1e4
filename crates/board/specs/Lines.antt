-- The lines of a text.
use Rattle.std.specs.Prelude.{ℕ, ◌+◌, ◌==◌, ◌&&◌, List, [], ◌∷◌, drop, nat_eq, if◌then◌else◌, slice_index, slice_index_or}
use Rattle.std.specs.List.{starts_with}
pub use Rattle.lines.specs.Lines.{lines_in}

-- The byte order mark of UTF-8.
abbrev pub byte_order_mark : List ℕ
byte_order_mark = 0xEF ∷ 0xBB ∷ 0xBF ∷ []

-- A text without the byte order mark that it may begin with.
abbrev pub without_mark : List ℕ → List ℕ
without_mark text = if starts_with nat_eq text byte_order_mark then drop 3 text else text

-- The byte at a place. Past its end, a text goes on as if with line feeds.
abbrev pub byte_at : List ℕ → ℕ → ℕ
byte_at text k = slice_index_or text k 10

-- The place after the line end at a place, or the place itself if no line end is there.
abbrev pub past_end : List ℕ → ℕ → ℕ
past_end text at = if slice_index text at == 10 then at + 1 else (if slice_index text at == 13 && slice_index text (at + 1) == 10 then at + 2 else at)

-- The first line of a text, or an empty one if there is none.
abbrev pub first_row : List ℕ → List ℕ
first_row text = slice_index_or (lines_in text) 0 []
