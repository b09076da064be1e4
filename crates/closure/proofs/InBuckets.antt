-- Lookups of a state among groups. A group of a lawful list has a box, so it may be in a bucket, and a key is an index of the table.
use Rattle.std.proofs.Common.{◌≡◌, ℕ, ◌+◌, ◌-◌, ◌*◌, ◌<◌, ◌≤◌, List, [], ◌∷◌, ◌++◌, length, get_or, ◌∙◌, ap, inl, inr, arith}
use Rattle.std.{specs.Prelude.slice_index, proofs.lemmas.Bool.cases_lt}
use Rattle.std.proofs.lemmas.List.{get_or_default}
use Rattle.cellset.{specs.SortedList.index, specs.CellSet.Has, specs.declared.cell.Cell.Cell, proofs.ReadingOrder.below_index}
use Rattle.board.specs.{Game.Level, Game.State, Board.IsWellFormed}
use Rattle.certificates.specs.CellLists.{cells_in}
use Rattle.cellset.proofs.CellLists.{has_listed}
use Rattle.certificates.specs.Pattern.{IsCovered, AreLawful}
use Rattle.closure.specs.{Buckets.IsInBucket, Chains.AreChains, Chains.IsLast}
use Rattle.closure.specs.{Groups.IsGrouped, Groups.boxes_of, Groups.list_of, Tables.GroupCovers, Tables.AreTables, declared.groups.Groups.Groups}
use Rattle.closure.specs.declared.tables.Tables.{Tables}
use Rattle.closure.proofs.{Grouped.box_on, Grouped.covered_by_group, Grouped.group_in_room, Grouped.some_box}
use Rattle.closure.proofs.Lists.{new_item, old_item}

-- ---- buckets
-- The links at the beginning of a chain and within it.
module _ (keys first next : List ℕ) (count key : ℕ) (chains : AreChains keys count first next) where
  pub begun : (got : ℕ) → key < count → got ≡ get_or first key got → IsLast keys key (length keys) got
  begun got low read = grind (arith, get_or_default)

  pub led_on : (at got : ℕ) → 0 < at → at ≤ length keys → got ≡ get_or next (at - 1) got → slice_index keys (at - 1) ≡ key → IsLast keys key (at - 1) got
  led_on at got up within read here = grind (arith, get_or_default)

module _ (level : Level) (groups : Groups) (lawful : AreLawful level (list_of groups)) (grouped : IsGrouped groups) (g : ℕ)
    (lt : g < length groups.spans.items) where
  -- a group has a box
  pub listed_some : 0 < length (boxes_of groups g)
  listed_some =
      let box = some_box level groups lawful grouped g lt in
      let low = (has_listed (boxes_of groups g) box.0 box.1).1 in
      omega arith

  -- The indexes of a group's boxes, and so its key, are within the table.
  pub index_in : (c : Cell) → Has (cells_in (boxes_of groups g)) c → index level.shape c < level.shape.width * level.shape.height
  index_in c has = search (below_index, box_on)

  pub key_within : (keys : List ℕ) → IsInBucket level groups keys g → slice_index keys g < level.shape.width * level.shape.height
  key_within keys bucket = rw bucket.key (index_in bucket.cell bucket.has)

-- If each group so far and the next one are in buckets, so is each of one group more.
pub bucket_more : (level : Level) (groups : Groups) (keys new : List ℕ) (n key : ℕ) → length keys ≡ n → new ≡ keys ++ key ∷ [] → ((k : ℕ) → k < n → IsInBucket level groups keys k)
    → (c : Cell) → Has (cells_in (boxes_of groups n)) c → key ≡ index level.shape c → (k : ℕ) → k < n + 1 → IsInBucket level groups new k
bucket_more level groups keys new n key long is old c has at k lt = elim (cases_lt k n) [
  | inl low ↦
      let was = old k low in
      record { cell = was.cell; has = was.has; key = ap (λ l. slice_index l k) is ∙ old_item keys key k 0 (omega arith) ∙ was.key }
  | inr past ↦
      let here : k ≡ n = omega arith in
      record { cell = c; has = rw here has; key = ap (λ l. slice_index l k) is ∙ new_item keys key k 0 (omega arith) ∙ at }
]

-- ---- states
module _ {S : Type 0} (tables : Tables S) (is : AreTables tables) (s : State) where
  pub no_group_covers : ((g : ℕ) → GroupCovers tables.board.now tables.groups g s → ⊥) → IsCovered tables.board.now (list_of tables.groups) s → ⊥
  no_group_covers none covered =
      let found = covered_by_group tables.board.now tables.groups is.grouped s covered in
      none found.0 found.1

  -- the player of a covered state is in the room
  pub player_in_room : IsWellFormed tables.board.now → IsCovered tables.board.now (list_of tables.groups) s → Has tables.board.now.room s.player
  player_in_room formed covered =
      let found = covered_by_group tables.board.now tables.groups is.grouped s covered in
      group_in_room tables.board.now formed tables.groups is.grouped is.lawful found.0 s.player found.1.1.player
