-- How cells and directions are written.
use Rattle.std.specs.Prelude.{ℕ, List, ◌++◌, codes, decimal}
use Rattle.cellset.specs.declared.cell.Cell.{Cell}
use Rattle.cellset.specs.declared.dir.Dir.{Dir}
use Rattle.cellset.specs.declared.dir.Dir.TheVariants.{L, U, R, D}

-- a cell is its column, a comma and its row
abbrev pub cell_word : Cell → List ℕ
cell_word c = decimal c.column ++ codes "," ++ decimal c.row

-- a direction is the letter of its step
abbrev pub dir_word : Dir → List ℕ
dir_word L = codes "l"
dir_word U = codes "u"
dir_word R = codes "r"
dir_word D = codes "d"
