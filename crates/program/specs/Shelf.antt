-- The two files of a shelf, by their names.
use Rattle.std.specs.Prelude.{ℕ, List, Option, Some, None, codes, if◌then◌else◌}
use Rattle.std.specs.Str.{bytes_eq}

-- the bytes of the file with a name
abbrev pub file_of : List ℕ → List ℕ → List ℕ → Option (List ℕ)
file_of levels answers name = if bytes_eq name (codes "levels") then Some levels else (if bytes_eq name (codes "answers") then Some answers else None)
