-- Spans: parts of a vector of cells.
use Rattle.std.specs.Prelude.{◌≡◌, ℕ, ◌<◌, ◌≤◌, List, Some, length, map, slice_index_or, slice_range}
use Rattle.std.specs.List.{Contains}
use Rattle.cellset.specs.declared.cell.Cell.{Cell}
use Rattle.closure.specs.declared.arena.{StoredLine.StoredLine, Span.Span}

-- the cells of a span
abbrev pub part : List Cell → Span → List Cell
part cells span = slice_range cells span.from span.to

abbrev pub span_at : List Span → ℕ → Span
span_at spans g = slice_index_or spans g (record { from = 0; to = 0 })

-- the span lies within this number of cells
pub record IsWithin (n : ℕ) (span : Span) : Type 0 where
  pub up : span.from ≤ span.to
  pub end : span.to ≤ n

-- each span lies within this number of cells, and after the spans before it
pub record AreSpans (n : ℕ) (spans : List Span) : Type 0 where
  pub within : (g : ℕ) → g < length spans → IsWithin n (span_at spans g)
  pub apart : (g h : ℕ) → g < length spans → h < g → (span_at spans h).to ≤ (span_at spans g).from

-- the boxes of each line lie within all boxes and come after the boxes of the lines before it; its seeds lie within all seeds
pub record AreWithin (boxes seeds : List Cell) (of : List StoredLine) : Type 0 where
  pub boxes_in : AreSpans (length boxes) (map (λ line. line.boxes) of)
  pub seeds_in : (line : StoredLine) (span : Span) → Contains of line → line.seeds ≡ Some span → IsWithin (length seeds) span
