-- Rows that are kept of regions: those of the region, or of the free cells that it lacks. A row has one word for each 64 columns.
use Rattle.std.specs.Prelude.{◌≡◌, ℕ, ◌+◌, ◌-◌, ◌*◌, ◌/◌, ◌%◌, ◌<◌, ◌≤◌, Bool, true, List, MatchBool, length, slice_index}
use Rattle.cellset.specs.{Shape.Extent, Bits.bit, RowBits.IsRowOf, CellSet.Cells, CellSet.Has, declared.cell.Cell.Cell}
use Rattle.closure.specs.declared.kept.{Kept.Kept, Region.Region}

-- the number of words in a row of the grid
abbrev pub parts_of : Extent → ℕ
parts_of shape = shape.width / 64 + 1

-- rows of the grid
pub record AreKept (shape : Extent) (kept : Kept) : Type 0 where
  pub parts : kept.parts ≡ parts_of shape
  pub last : kept.last ≤ length kept.words.items

-- the number of rows that are kept of the region
abbrev pub rows_of : Region → ℕ
rows_of region = region.last + 1 - region.first

-- the words of the region are there
abbrev pub IsThere : Kept → Region → Type 0
IsThere kept region = region.at + rows_of region * kept.parts ≤ length kept.words.items

-- the bit of a cell
abbrev pub kept_bit : Kept → Region → Cell → Bool
kept_bit kept region c = bit (slice_index kept.words.items (region.at + ((c.row - region.first) * kept.parts + c.column / 64))) (c.column % 64)

-- the cell is in the rows of the region
pub record InKept (kept : Kept) (region : Region) (c : Cell) : Type 0 where
  pub from : region.first ≤ c.row
  pub to : c.row ≤ region.last
  pub is : kept_bit kept region c ≡ true

-- what is kept says that the free cell is in the region
abbrev pub KeptHas : Kept → Region → Cell → Type 0
KeptHas kept region c = MatchBool region.lacks (InKept kept region c → ⊥) (InKept kept region c)

-- these rows have all of the cells
abbrev pub AreSpanned : Cells → ℕ → ℕ → Type 0
AreSpanned cells first rows = (c : Cell) → Has cells c → (first ≤ c.row) × (c.row < first + rows)

-- the words are those of a row of the cells
abbrev pub AreWordsIn : Cells → ℕ → ℕ → List ℕ → Type 0
AreWordsIn cells row parts words = (p : ℕ) → p < parts → IsRowOf cells row p (slice_index words p)

-- the words are those of this number of rows of the cells, from the first one on
abbrev pub AreRowsIn : Cells → ℕ → ℕ → ℕ → List ℕ → Type 0
AreRowsIn cells first rows parts words = (k p : ℕ) → k < rows → p < parts → IsRowOf cells (first + k) p (slice_index words (k * parts + p))
