-- The lines of an arena, which has the boxes and the seeds of all of them as cells.
use Rattle.std.specs.{Borrow.Bor, List.Contains}
use Rattle.std.specs.Prelude.{◌≡◌, ℕ, ◌⊎◌, length, List, Option, None, Some, map, option_map, slice_index_or}
use Rattle.std.specs.FinSet as set
use Rattle.cellset.specs.{Shape.Extent, Cell.IsOn, CellSet.Has, declared.cell.Cell.Cell}
use Rattle.answers.specs.{declared.pattern.Coord.Coord, Body.PatternLine}
use Rattle.certificates.specs.CellLists.{cells_in}
use Rattle.certificates.specs.Pattern.{Pattern, Seeds, whole_room, listed, patterns_of, IsListedSeed}
use Rattle.closure.specs.declared.arena.CellPattern.{CellPattern}
use Rattle.closure.specs.{Spans.IsWithin, Spans.part, declared.arena.StoredLine.StoredLine}
use Rattle.closure.specs.declared.arena.{Arena.Arena, Span.Span}

-- ---- lines
-- the coordinate of a cell
abbrev pub coord_of : Cell → Coord
coord_of c = record { row = c.row; column = c.column }

-- the pattern line of a line of an arena with these boxes and seeds
abbrev pub line_in : List Cell → List Cell → StoredLine → PatternLine
line_in boxes seeds line = record {
  line = line.number;
  boxes = map coord_of (part boxes line.boxes);
  seeds = option_map (λ span. map coord_of (part seeds span)) line.seeds;
}

-- the pattern lines of an arena
abbrev pub lines_in : Arena → List PatternLine
lines_in arena = map (line_in arena.boxes.items arena.seeds.items) arena.lines.items

-- the patterns of the lines
abbrev pub list_in : Arena → List Pattern
list_in arena = patterns_of (lines_in arena)

-- the pattern with this number
abbrev pub pattern_at : List Pattern → ℕ → Pattern
pattern_at patterns j = slice_index_or patterns j (record { boxes = set.empty; seeds = whole_room })

-- the line with this number in the list
abbrev pub line_at : Arena → ℕ → StoredLine
line_at arena j = slice_index_or arena.lines.items j (record { number = 0; boxes = record { from = 0; to = 0 }; seeds = None })

-- the boxes of the line with this number
abbrev pub boxes_at : Arena → ℕ → List Cell
boxes_at arena j = part arena.boxes.items (line_at arena j).boxes

-- the seeds in a span, or `*` if there is none
abbrev pub seeds_within : List Cell → Option Span → Seeds
seeds_within seeds None = whole_room
seeds_within seeds (Some span) = listed (cells_in (part seeds span))

-- the pattern of a line of an arena
abbrev pub stored_pattern : Arena → StoredLine → Pattern
stored_pattern arena line =
    record { boxes = cells_in (part arena.boxes.items line.boxes); seeds = seeds_within arena.seeds.items line.seeds }

-- the spans of a line lie within the arena
pub record IsStored (arena : Arena) (line : StoredLine) : Type 0 where
  pub boxes_in : IsWithin (length arena.boxes.items) line.boxes
  pub seeds_in : (span : Span) → line.seeds ≡ Some span → IsWithin (length arena.seeds.items) span

-- every box and every listed seed of the pattern is on the grid
abbrev pub IsOnGrid : Extent → Pattern → Type 0
IsOnGrid shape pattern = (c : Cell) → Has pattern.boxes c ⊎ IsListedSeed pattern.seeds c → IsOn shape c

-- a box or a listed seed of the pattern isn't on the grid
abbrev pub IsOffGrid : Extent → Pattern → Type 0
IsOffGrid shape pattern = (c : Cell) × (Has pattern.boxes c ⊎ IsListedSeed pattern.seeds c) × (IsOn shape c → ⊥)

-- each pattern is on the grid
abbrev pub AreOnGrid : Extent → List Pattern → Type 0
AreOnGrid shape patterns = (pattern : Pattern) → Contains patterns pattern → IsOnGrid shape pattern

-- ---- patterns as cells
-- the listed seeds, if there are any
abbrev pub seeds_among : Option (Bor (List Cell)) → Seeds
seeds_among None = whole_room
seeds_among (Some cells) = listed (cells_in cells.now)

-- the pattern of these boxes and seeds
abbrev pub pattern_in : CellPattern → Pattern
pattern_in p = record { boxes = cells_in p.boxes.now; seeds = seeds_among p.seeds }
