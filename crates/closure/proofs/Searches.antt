-- A search of buckets. A group that the search has come past after a bucket was begun, it had come past before, since the chain of the bucket
-- has each group of the bucket. If it goes on to the next group, it has come past that one and no other.
use Rattle.std.proofs.Common.{◌≡◌, ℕ, ◌+◌, ◌-◌, ◌*◌, ◌<◌, ◌≤◌, length, get_or, arith}
use Rattle.std.{specs.Prelude.◌⊎◌, specs.Prelude.slice_index, proofs.lemmas.Bool.cases_lt}
use Rattle.std.proofs.lemmas.List.{get_or_default}
use Rattle.cellset.specs.{Shape.Extent, Cell.IsOn, CellSet.Has, SortedList.index, declared.cell.Cell.Cell}
use Rattle.cellset.proofs.{Truth.either}
use Rattle.certificates.specs.CellLists.{cell_no, cells_in}
use Rattle.certificates.proofs.CellLists.{in_list, no_cell}
use Rattle.cellset.proofs.CellLists.{has_listed}
use Rattle.closure.specs.{Chains.IsLast, Search.IsPassed, Search.IsSearch, declared.groups.Groups.Groups, declared.buckets.Buckets.Buckets, declared.search.Search.Search}

module _ (shape : Extent) (buckets : Buckets) (old new : Search) (cells_is : new.cells.items ≡ old.cells.items) where
  pub past_bucket : old.link ≡ 0 → new.begun ≡ old.begun + 1
      → IsLast buckets.keys.items (index shape (cell_no old.cells.items old.begun)) (length buckets.keys.items) new.link → (g : ℕ)
      → g < length buckets.keys.items → IsPassed shape buckets new g → IsPassed shape buckets old g
  past_bucket none begun_is last g lt p = grind (arith, cases_lt, either)

  pub past_group : 0 < old.link → new.begun ≡ old.begun
      → IsLast buckets.keys.items (index shape (cell_no old.cells.items (old.begun - 1))) (old.link - 1) new.link → (g : ℕ)
      → IsPassed shape buckets new g → IsPassed shape buckets old g ⊎ (g ≡ old.link - 1)
  past_group some begun_is last g p = grind (arith, cases_lt, either)

-- At the end the search has come past each group in the buckets of its cells.
pub past_all : (shape : Extent) (buckets : Buckets) (s : Search) → s.link ≡ 0 → s.begun ≡ length s.cells.items → (g : ℕ) (c : Cell)
    → Has (cells_in s.cells.items) c → slice_index buckets.keys.items g ≡ index shape c → IsPassed shape buckets s g
past_all shape buckets s none all g c has key = grind (arith, has_listed, get_or_default, no_cell)

-- Another bucket has at most all groups, so fewer groups are left.
pub fewer_left : (cells begun groups link : ℕ) → begun < cells → link ≤ groups → (cells - (begun + 1)) * (groups + 1) + link ≤ (cells - begun) * (groups + 1)
fewer_left cells begun groups link low few = grind arith

pub fewer_on : (cells begun groups link bound : ℕ) → begun < cells → link ≤ groups → (cells - begun) * (groups + 1) + 0 ≤ bound
    → (cells - (begun + 1)) * (groups + 1) + link ≤ bound
fewer_on cells begun groups link bound low few was = grind (arith, fewer_left)

-- The cell whose bucket comes next is on the grid.
pub next_on : (shape : Extent) (groups : Groups) (buckets : Buckets) (s : Search) → IsSearch shape groups buckets s → s.begun < length s.cells.items → (d : Cell)
    → IsOn shape (get_or s.cells.items s.begun d)
next_on shape groups buckets s is low d = is.on (get_or s.cells.items s.begun d) (in_list s.cells.items s.begun d low)
