-- Rows of either width, as a set of cells. A method of `Rows` does the same to rows of one word and to rows of four. Either arm leaves rows
-- of the grid whose cells are known (`Changed`), and what follows from that is the same for both.
use Rattle.std.proofs.Common.{◌≡◌, ℕ, ◌+◌, ◌*◌, ◌/◌, ◌%◌, ◌<◌, ◌≤◌, List, [], ◌++◌, take, drop, length, get_or, Option, Some, None, arith}
use Rattle.std.proofs.Math.ListN as lists
use Rattle.std.specs.Prelude.{◌⊎◌, ◌↔◌}
use Rattle.std.specs.FinSet as set
use Rattle.cellset.specs.Shape.{Extent, HasSides}
use Rattle.cellset.specs.Cell.{IsOn}
use Rattle.cellset.specs.CellSet.{Cells, CellsOn, Has, Lacks}
use Rattle.cellset.specs.RowBits.{cells_of_row}
use Rattle.cellset.specs.declared.cell.Cell.{Cell}
use Rattle.cellset.proofs.Truth.{either}
use Rattle.reach.specs.Bits.{Bit, HasBit}
use Rattle.reach.specs.BitRows.{InRows}
use Rattle.reach.specs.RowSet.{AreRowsOf, AreRowsQueued, members_in}
use Rattle.reach.specs.Rows.{AreRows, IsOccupied, rows_in}
use Rattle.reach.specs.declared.rows.ByWidth.{ByWidth}
use Rattle.reach.specs.declared.worklist.Worklist.{Worklist}
use Rattle.reach.proofs.Sets.{has_is, none_empty, put_back, rows_put_back, rows_written, set_is}
use Rattle.reach.proofs.Written.{cell_added, cells_removed}

-- these are rows of the grid, and they have these cells
abbrev pub Changed : Extent → ByWidth → (Cell → Type 0) → Type 0
Changed shape rows Are = AreRows shape rows × ((q : Cell) → InRows (rows_in rows) q ↔ Are q)

pub members_changed : (shape : Extent) (rows : ByWidth) (Are : Cell → Type 0) → Changed shape rows Are → (q : Cell)
    → Has (members_in shape (rows_in rows)) q ↔ Are q
members_changed shape rows Are (are, cells) q =
    let has = has_is shape (rows_in rows) are.on q in
    let is = cells q in
    (λ h. is.0 (has.0 h), λ h. has.1 (is.1 h))

pub empty_changed : (shape : Extent) (rows : ByWidth) → Changed shape rows (λ _. ⊥) → members_in shape (rows_in rows) ≡ set.empty
empty_changed shape rows (_, cells) = none_empty shape (rows_in rows) (λ q h. (cells q).0 h)

pub set_changed : (shape : Extent) (rows : ByWidth) (s : Cells) → Changed shape rows (Has s) → members_in shape (rows_in rows) ≡ s
set_changed shape rows s (are, cells) = set_is shape (rows_in rows) are.on s cells

-- ---- what an arm leaves
-- a vector whose slice was changed
pub slice_changed : (n : ℕ) (shape : Extent) (len : ℕ) (old new : List (List ℕ)) (Are : Cell → Type 0) → len ≡ length old → AreRowsOf n shape old
    → length new ≡ length old → ((q : Cell) → InRows new q → IsOn shape q) → ((q : Cell) → InRows new q ↔ Are q)
    → AreRowsOf n shape (take len (new ++ drop (length new) old)) × ((q : Cell) → InRows (take len (new ++ drop (length new) old)) q ↔ Are q)
slice_changed n shape len old new Are same_len were kept on cells =
    (rows_put_back n shape len old new same_len were kept on, rw (put_back len old new same_len kept) cells)

-- empty rows
pub none_changed : (n : ℕ) (shape : Extent) (rows : List (List ℕ)) → n ≤ 4 → shape.width < 64 * n → (shape.width < 64 → n ≡ 1)
    → HasSides shape.width shape.height → length rows ≡ shape.height + 1 → ((q : Cell) → InRows rows q → ⊥) → AreRowsOf n shape rows × ((q : Cell) → InRows rows q ↔ ⊥)
none_changed n shape rows few wide narrow sides long none = (
  record { few = few; wide = wide; narrow = narrow; sides = sides; long = long; on = λ q h. absurd (none q h) },
  λ q. (none q, λ no. absurd no),
)

-- a row that got the bit of a cell
pub cell_changed : (n : ℕ) (shape : Extent) (items : List (List ℕ)) (y : ℕ) (row : List ℕ) (cell : Cell) → AreRowsOf n shape items → IsOn shape cell
    → y ≡ cell.row → ((k : ℕ) → HasBit row k ↔ (HasBit (get_or items y []) k ⊎ (k ≡ cell.column)))
    → AreRowsOf n shape (lists.set items y row) × ((q : Cell) → InRows (lists.set items y row) q ↔ (InRows items q ⊎ (q ≡ cell)))
cell_changed n shape items y row cell are on at bits =
    let told = cell_added items y row cell (omega arith) at bits in
    (rows_written n shape items y row are (λ q h. either ((told q).0 h) (are.on q) (λ e. rw e on)), told)

-- a row that lost the bits of a part
pub part_changed : (n : ℕ) (shape : Extent) (items : List (List ℕ)) (y part bits : ℕ) (row : List ℕ) → AreRowsOf n shape items → y ≤ shape.height
    → ((k : ℕ) → HasBit row k ↔ (HasBit (get_or items y []) k × (k / 64 ≡ part → Bit bits (k % 64) → ⊥)))
    → AreRowsOf n shape (lists.set items y row) × ((q : Cell) → InRows (lists.set items y row) q ↔ (InRows items q × Lacks (cells_of_row y part bits) q))
part_changed n shape items y part bits row are high told =
    let left = cells_removed items y part bits row (omega arith) told in
    (rows_written n shape items y row are (λ q h. are.on q ((left q).0 h).0), left)

-- ---- the worklist of the rows that have a cell
-- it stays right if cells go
pub occupied_fewer : (cells fewer : CellsOn) (occupied : Option (Worklist 4)) → fewer.extent ≡ cells.extent
    → ((q : Cell) → Has fewer.members q → Has cells.members q) → IsOccupied cells occupied → IsOccupied fewer occupied
occupied_fewer cells fewer None same less q = tt
occupied_fewer cells fewer (Some w) same less q = record { all = λ c h. q.all c (less c h); within = rw same q.within }

-- and with the row of a cell that comes
pub queued_more : (cells more : CellsOn) (cell : Cell) (words now : List ℕ) → more.extent ≡ cells.extent → IsOn cells.extent cell
    → ((q : Cell) → Has more.members q → Has cells.members q ⊎ (q ≡ cell)) → ((k : ℕ) → HasBit now k ↔ (HasBit words k ⊎ (k ≡ cell.row)))
    → AreRowsQueued cells words → AreRowsQueued more now
queued_more cells more cell words now same on from bits was = grind arith
