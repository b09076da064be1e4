-- Rows of bits as cells: bit k of a row is column k.
use Rattle.std.specs.Prelude.{◌≡◌, ℕ, ◌+◌, ◌*◌, ◌^◌, List, [], sum, slice_index_or}
use Rattle.std.specs.List.{sum_by}
use Rattle.cellset.specs.declared.cell.Cell.{Cell}
use Rattle.reach.specs.Bits.{HasBit, room_left}

-- the cell's bit is set
abbrev pub InRows : List (List ℕ) → Cell → Type 0
InRows rows c = HasBit (slice_index_or rows c.row []) c.column

-- the cell is in this row, and the bit of its column is set
abbrev pub InRow : ℕ → List ℕ → Cell → Type 0
InRow row bits c = (c.row ≡ row) × HasBit bits c.column

-- the work that a flood has left: another cell of the region lowers it by more than another row of the worklist raises it
abbrev pub work_left : List (List ℕ) → List ℕ → ℕ
work_left region waiting = sum_by room_left region * 2 ^ 64 + sum waiting
