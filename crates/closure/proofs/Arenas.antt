-- The lines of an arena as patterns. The coordinates of a line name just its cells, so the boxes of its pattern are the set of its boxes in
-- the arena.
use Rattle.std.proofs.Common.{◌≡◌, ℕ, ◌<◌, List, [], ◌∷◌, length, refl, ◌∙◌, ap, arith}
use Rattle.std.{specs.Prelude.map, specs.List.Contains, proofs.lemmas.List.get_or-map, proofs.lemmas.List.length-map}
use Rattle.std.specs.FinSet as set
use Rattle.std.proofs.lemmas.List.{get_or_default}
use Rattle.cellset.specs.declared.cell.Cell.{Cell}
use Rattle.certificates.specs.CellLists.{cell_of, cells_of, cells_in}
use Rattle.certificates.specs.Pattern.{pattern_of}
use Rattle.closure.specs.declared.arena.Arena.{Arena}
use Rattle.closure.specs.Arena.{boxes_at, coord_of, line_at, line_in, lines_in, list_in, pattern_at}

-- Cells are the cells of their coordinates.
back_again : (cells : List Cell) → map cell_of (map coord_of cells) ≡ cells
back_again [] = refl
back_again (c ∷ cs) = ap (λ l. c ∷ l) (back_again cs)

-- The coordinates of cells name just these cells.
pub same_cells : (cells : List Cell) → cells_of (map coord_of cells) ≡ cells_in cells
same_cells cells = ap set.from_list (back_again cells)

-- An arena has as many patterns as lines.
pub list_long : (arena : Arena) → length (list_in arena) ≡ length arena.lines.items
list_long arena = search (length-map)

-- The pattern of each line is in the list.
pub listed_at : (arena : Arena) (j : ℕ) → j < length arena.lines.items → Contains (list_in arena) (pattern_at (list_in arena) j)
listed_at arena j lt = search (list_long, get_or_default)

-- The pattern of a line is read by the number of the line.
pub line_pattern : (arena : Arena) (j : ℕ) → j < length arena.lines.items
    → pattern_at (list_in arena) j ≡ pattern_of (line_in arena.boxes.items arena.seeds.items (line_at arena j))
line_pattern arena j lt =
    let read = line_in arena.boxes.items arena.seeds.items in
    let long = length-map arena.lines.items read in
    get_or-map pattern_of (lines_in arena) j (read (line_at arena j)) _ (omega arith) ∙ ap pattern_of (get_or-map read arena.lines.items j _ _ lt)

-- The boxes of a line's pattern are the boxes of the line.
pub boxes_is : (arena : Arena) (j : ℕ) → j < length arena.lines.items → (pattern_at (list_in arena) j).boxes ≡ cells_in (boxes_at arena j)
boxes_is arena j lt = search (line_pattern, same_cells)
