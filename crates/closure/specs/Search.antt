-- How far a search of the buckets of some cells has come.
use Rattle.std.specs.Prelude.{◌≡◌, ◌⊎◌, ℕ, ◌+◌, ◌-◌, ◌*◌, ◌<◌, ◌≤◌, length, slice_index}
use Rattle.cellset.specs.{Shape.Extent, Cell.IsOn, CellSet.Has, SortedList.index, declared.cell.Cell.Cell}
use Rattle.certificates.specs.CellLists.{cell_no, cells_in}
use Rattle.closure.specs.declared.{buckets.Buckets.Buckets, groups.Groups.Groups, search.Search.Search}

-- the search has come past the group: it has begun a bucket with the group, and if this is the last one that was begun, the link leads to a group before it
pub record IsPassed (shape : Extent) (buckets : Buckets) (search : Search) (g : ℕ) : Type 0 where
  pub at : ℕ
  pub begun : at < search.begun
  pub key : slice_index buckets.keys.items g ≡ index shape (cell_no search.cells.items at)
  pub past : (at + 1 < search.begun) ⊎ (search.link ≤ g)

-- the cells are on the grid, and the link leads to a group in the bucket that was begun last, or to none
pub record IsSearch (shape : Extent) (groups : Groups) (buckets : Buckets) (search : Search) : Type 0 where
  pub on : (c : Cell) → Has (cells_in search.cells.items) c → IsOn shape c
  pub begun : search.begun ≤ length search.cells.items
  pub link : search.link ≤ length groups.spans.items
  pub key : 0 < search.link → (0 < search.begun) × (slice_index buckets.keys.items (search.link - 1) ≡ index shape (cell_no search.cells.items (search.begun - 1)))

-- at most how many groups the search still returns
abbrev pub searches_left : Groups → Search → ℕ
searches_left groups search = (length search.cells.items - search.begun) * (length groups.spans.items + 1) + search.link

-- the search has passed all groups in the buckets of its cells
abbrev pub IsSearched : Extent → Groups → Buckets → Search → Type 0
IsSearched shape groups buckets search =
    (g : ℕ) (c : Cell) → g < length groups.spans.items → Has (cells_in search.cells.items) c → slice_index buckets.keys.items g ≡ index shape c
    → IsPassed shape buckets search g
