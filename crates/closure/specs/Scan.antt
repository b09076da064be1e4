-- What a scan keeps of a list of patterns.
--   entry        the cells of a pattern's boxes, and its region, which is left out for `*`
use Rattle.std.specs.{Prelude.◌≡◌, Prelude.◌<◌, Prelude.◌↔◌, Prelude.ℕ, Prelude.List, Prelude.Option, Prelude.length, Prelude.slice_index_or, Prelude.unwrap_or, Prelude.refl, List.Contains}
use Rattle.std.specs.Coded.{Coded, code_by, coded×, coded_ℕ, coded_list, coded_option}
use Rattle.cellset.specs.{Shape.Extent, Coding.coded_cell, Coding.coded_cells, CellSet.Cells, CellSet.Has, CellSet.Lacks, declared.cell.Cell.Cell}
use Rattle.board.specs.Game.{Level, State}
use Rattle.certificates.specs.CellLists.{cells_in}
use Rattle.certificates.specs.Pattern.{Pattern, InPatternRegion}
use Rattle.closure.specs.Arena.{pattern_at}

-- an entry with its grid
pub record EntryCells : Type 0 where
  pub extent : Extent
  pub boxes : List Cell
  pub region : Option Cells

-- the coding of entries as numbers, which a model needs
abbrev pub coded_entry : Coded EntryCells
coded_entry =
    code_by ((ℕ × ℕ) × (List Cell × Option Cells))
    (coded× (coded× coded_ℕ coded_ℕ) (coded× (coded_list coded_cell) (coded_option coded_cells)))
    (λ e. ((e.extent.width, e.extent.height), (e.boxes, e.region)))
    (λ p. record { extent = record { width = p.0.0; height = p.0.1 }; boxes = p.1.0; region = p.1.1 })
    (λ _. refl)

-- the state has the boxes of the entry, and its player is on none of them and in the region
pub record EntryCovers (room : Cells) (entry : EntryCells) (s : State) : Type 0 where
  pub boxes : (c : Cell) → Has (cells_in entry.boxes) c → Has s.boxes c
  pub apart : Lacks (cells_in entry.boxes) s.player
  pub player : Has (unwrap_or entry.region room) s.player

-- some entry covers the state
abbrev pub EntriesCover : Cells → List EntryCells → State → Type 0
EntriesCover room entries s = (entry : EntryCells) × Contains entries entry × EntryCovers room entry s

-- the entry of a pattern
pub record IsEntryOf (level : Level) (pattern : Pattern) (entry : EntryCells) : Type 0 where
  pub extent : entry.extent ≡ level.shape
  pub boxes : cells_in entry.boxes ≡ pattern.boxes
  pub region : (c : Cell) → (Has (unwrap_or entry.region level.room) c × Lacks pattern.boxes c) ↔ InPatternRegion level pattern c

-- there is an entry of each of the first n patterns
pub record AreEntries (level : Level) (patterns : List Pattern) (n : ℕ) (entries : List EntryCells) : Type 0 where
  pub long : length entries ≡ n
  pub each : (k : ℕ) (e : EntryCells) → k < n → IsEntryOf level (pattern_at patterns k) (slice_index_or entries k e)
