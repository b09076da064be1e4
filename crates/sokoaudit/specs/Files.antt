-- What an opened file has left to read.
use Rattle.std.specs.Prelude.{ℕ, List, Option}
use Rattle.sokoaudit.specs.declared.files.Opened.{Opened}
use Rattle.sokoaudit.specs.declared.files.Opened.TheVariants.{File, Input}

-- an opened file has left what the file or standard input has left
abbrev pub left_in : {F I : Type 0} → (F → Option (List ℕ)) → (I → Option (List ℕ)) → Opened F I → Option (List ℕ)
left_in file input (File f) = file f
left_in file input (Input i) = input i
