-- What the mailbox of a replay says. A byte is one of three, so it says what its cell is, and what a cell is determines
-- its byte.
-- A byte that is written belongs to a cell of the grid, so no other cell near the grid has its place, and the mailbox shows the boxes with
-- or without this one. A push writes two bytes. The mailbox of a new level is drawn by lanes (`Lanes.antt`), first without boxes.
use Rattle.std.proofs.Common.{◌≡◌, ◌≢◌, ◌⊎◌, ℕ, Bool, true, false, cond, not, ◌&&◌, ◌||◌, ◌+◌, ◌-◌, ◌*◌, ◌/◌, ◌%◌, ◌^◌, ◌≤◌, ◌<◌, List, length, min, set, get_or, length-set, subst}
use Rattle.std.proofs.Common.{refl, sym, ◌∙◌, ap, inl, inr, arith}
use Rattle.std.specs.Prelude.{◌↔◌}
use Rattle.std.proofs.lemmas.List.{get_or-set_same, get_or-set_other}
use Rattle.std.proofs.lemmas.Simd.{length-put_chunk, get_or-put_chunk_below, get_or-put_chunk_at}
use lib.Lanes.{put_chunk}
use Rattle.std.specs.FinSet as cells
use Rattle.cellset.specs.Shape.{Extent, HasSides}
use Rattle.cellset.specs.Bits.{bit}
use Rattle.cellset.specs.Cell.{neighbor, IsOn, cell_at, cell_cmp}
use Rattle.cellset.specs.CellSet.{Cells, Has, Lacks}
use Rattle.cellset.specs.RowBits.{IsRowOf, row_cell}
use Rattle.cellset.specs.declared.cell.Cell.{Cell}
use Rattle.cellset.specs.declared.dir.Dir.{Dir}
use Rattle.cellset.specs.declared.dir.Dir.TheVariants.{L, U, R, D}
use Rattle.cellset.proofs.Members.{cells_total, same, same_or_other, lacks_where, not_both, same_itself, inserted, has_remove}
use Rattle.std.proofs.lemmas.Bool.{false≢true, cases_lt}
use Rattle.board.specs.Game.{Level, IsFloor, moved}
use Rattle.board.specs.Board.{IsWellFormed}
use Rattle.play.specs.State.{IsWall}
use Rattle.play.specs.Mailbox.{place_of, IsNear, IsShown, IsMailboxOf, IsDrawnBelow}
use Rattle.play.specs.declared.mailbox.TheConstants.{FREE, WALL, BOX}
use Rattle.cellset.proofs.Shifts.{bit_down}
use Rattle.play.proofs.Lanes.{low_bits}
use Rattle.play.proofs.Places.{near_on, on_or_off, place_one, place_on}

module _ (level : Level) (boxes : Cells) (c : Cell) (b : ℕ) where
  -- ---- what a byte says
  pub free_by : IsShown level boxes c b → b ≡ FREE → IsFloor level c × Lacks boxes c
  free_by (inl (e, floor, free)) is = (floor, free)
  free_by (inr (inl (e, wall, _))) is = absurd (omega arith)
  free_by (inr (inr (e, floor, box))) is = absurd (omega arith)

  pub wall_by : IsShown level boxes c b → b ≡ WALL → IsWall level c
  wall_by (inl (e, floor, free)) is = absurd (omega arith)
  wall_by (inr (inl (e, wall, _))) is = wall
  wall_by (inr (inr (e, floor, box))) is = absurd (omega arith)

  pub box_by : IsShown level boxes c b → b ≡ BOX → IsFloor level c × Has boxes c
  box_by (inl (e, floor, free)) is = absurd (omega arith)
  box_by (inr (inl (e, wall, _))) is = absurd (omega arith)
  box_by (inr (inr (e, floor, box))) is = (floor, box)

  pub no_box_by : IsShown level boxes c b → b ≢ BOX → Lacks boxes c
  no_box_by (inl (e, floor, free)) other = free
  no_box_by (inr (inl (e, wall, free))) other = free
  no_box_by (inr (inr (e, floor, box))) other = absurd (other e)

  -- a cell that is not free is a wall or has a box
  pub barred_by : IsShown level boxes c b → b ≢ FREE → IsWall level c ⊎ Has boxes c
  barred_by (inl (e, floor, free)) other = absurd (other e)
  barred_by (inr (inl (e, wall, _))) other = inl wall
  barred_by (inr (inr (e, floor, box))) other = inr box

  -- ---- and what is said by a byte
  pub free_byte : IsShown level boxes c b → IsFloor level c → Lacks boxes c → b ≡ FREE
  free_byte (inl (e, _, _)) floor free = e
  free_byte (inr (inl (e, wall, _))) floor free = absurd (wall floor)
  free_byte (inr (inr (e, _, box))) floor free = not_both boxes c box free

-- ---- a byte that is written, and a push
pub neighbor_other : {shape : Extent} {c : Cell} (d : Dir) → IsOn shape c → c ≢ neighbor c d
neighbor_other L on e = grind arith
neighbor_other U on e = grind arith
neighbor_other R on e = grind arith
neighbor_other D on e = grind arith

module _ (level : Level) (sides : HasSides level.shape.width level.shape.height) where
  -- a mailbox in which the byte of one cell is written shows boxes that differ at this cell at most
  mailbox_set : {boxes new : Cells} {mailbox : List ℕ} {q : Cell} {byte : ℕ} → IsOn level.shape q
      → ((c : Cell) → same c q ≡ false → cells.contains new c ≡ cells.contains boxes c) → IsShown level new q byte
      → IsMailboxOf level boxes mailbox → IsMailboxOf level new (set mailbox (place_of q) byte)
  mailbox_set {boxes} {new} {mailbox} {q} {byte} on others here before = record {
    places = λ c near. let old = before.places c near in let long = length-set mailbox (place_of q) byte in omega arith;
    shown = λ c near. same_or_other c q
        (λ e. rw (e, get_or-set_same mailbox (place_of q) byte 0 (before.places q (near_on level.shape on))) here)
        (λ f. grind (arith, get_or-set_other, place_one, other, still));
  }
    where
      other : (c : Cell) → same c q ≡ false → c ≢ q
      other c f e = false≢true (sym f ∙ (ap (same c) (sym e) ∙ same_itself c))

      still : (c : Cell) (b : ℕ) → cells.contains new c ≡ cells.contains boxes c → IsShown level boxes c b → IsShown level new c b
      still c b e (inl (is, floor, free)) = inl (is, floor, e ∙ free)
      still c b e (inr (inl (is, wall, free))) = inr (inl (is, wall, e ∙ free))
      still c b e (inr (inr (is, floor, box))) = inr (inr (is, floor, e ∙ box))

  pub mailbox_put : {boxes : Cells} {mailbox : List ℕ} {to : Cell} → IsFloor level to → IsMailboxOf level boxes mailbox
      → IsMailboxOf level (cells.insert boxes to) (set mailbox (place_of to) BOX)
  mailbox_put {boxes} {to} floor before = mailbox_set floor.0
      (λ c f. cells.contains-insert cells_total boxes to c ∙ ap (λ b. b || cells.contains boxes c) f) (inr (inr (refl, floor, inserted boxes to))) before

  mailbox_taken : (boxes : Cells) (mailbox : List ℕ) (from : Cell) → IsFloor level from → IsMailboxOf level boxes mailbox
      → IsMailboxOf level (cells.remove boxes from) (set mailbox (place_of from) FREE)
  mailbox_taken boxes mailbox from floor before = mailbox_set floor.0
      (λ c f. cells.contains-remove cells_total boxes from c ∙ ap (λ b. not b && cells.contains boxes c) f)
      (inl (refl, floor, lacks_where (cells.remove boxes from) from (λ h. (has_remove boxes from from h).0 refl))) before

  pub mailbox_pushed : {boxes : Cells} {mailbox : List ℕ} {from to : Cell} → IsMailboxOf level boxes mailbox → IsFloor level from → IsFloor level to
      → IsMailboxOf level (moved boxes from to) (set (set mailbox (place_of from) FREE) (place_of to) BOX)
  mailbox_pushed before floor there = search (mailbox_put, mailbox_taken)

-- ---- the mailbox of a level as it begins
-- bytes for sixteen cells of a row, from a column on: they show the cells on the grid, and are the byte of a wall beyond it
pub record AreBytesOf (level : Level) (row column : ℕ) (bytes : List ℕ) : Type 0 where
  pub len : length bytes ≡ 16
  pub on : (k : ℕ) → k < 16 → IsOn level.shape (cell_at (column + k) row) → IsShown level cells.empty (cell_at (column + k) row) (get_or bytes k 0)
  pub off : (k : ℕ) → k < 16 → (IsOn level.shape (cell_at (column + k) row) → ⊥) → get_or bytes k 0 ≡ WALL

-- the cells of a level are drawn sixteen by sixteen, in the order of their places
module _ (level : Level) (formed : IsWellFormed level) where
  -- drawing goes on by sixteen cells, whose bytes are stored at once
  pub drawn_next : (row column : ℕ) (bytes mailbox : List ℕ) → column + 16 ≤ 256 → row ≤ level.shape.height + 1 → row < 256
      → AreBytesOf level row column bytes → IsDrawnBelow level (256 * row + column) mailbox
      → IsDrawnBelow level (256 * row + column + 16) (put_chunk (256 * row + column) mailbox bytes)
  drawn_next row column bytes mailbox within row_on low are before = record { rows = rows; drawn = drawn }
    where
      n : ℕ
      n = 256 * row + column

      after : List ℕ
      after = put_chunk n mailbox bytes

      rows : 256 * min (level.shape.height + 2) 256 ≤ length after
      rows = let r = before.rows in let same = length-put_chunk n mailbox bytes in omega arith

      room : n + length bytes ≤ length mailbox
      room = omega arith

      earlier : (i : ℕ) → i < n → get_or after i 0 ≡ get_or mailbox i 0
      earlier i lt = get_or-put_chunk_below n mailbox bytes i 0 lt

      here : (i : ℕ) → n ≤ i → i < n + 16 → get_or after i 0 ≡ get_or bytes (i - n) 0
      here i low high = grind (arith, get_or-put_chunk_at, room)

      drawn : (c : Cell) → IsNear level.shape c → place_of c < n + 16 → IsShown level cells.empty c (get_or after (place_of c) 0)
      drawn c near below = elim (cases_lt (place_of c) n) [
        | inl lt ↦ rw (← (earlier (place_of c) lt)) at (before.drawn c near lt)
        | inr from ↦
            let k = place_of c - n in
            let q = cell_at (column + k) row in
            rw (here (place_of c) from below) (on_or_off level.shape q
            (λ on.
            grind (arith, place_on, place_one))
            (λ off. inr (inl (
              are.off k (omega arith) off,
              (λ floor.
                  grind (arith, place_on)),
              cells.contains-empty cell_cmp c,
            ))))
      ]

  -- sixteen bytes from the bits of a part of a row of the floor, shifted down to the first of them
  module _ (row part word : ℕ) (floor : Cells) (is : (c : Cell) → Has floor c ↔ IsFloor level c) (row_is : IsRowOf floor row part word) where
    pub bytes_drawn : (s : ℕ) {left : ℕ} {bytes : List ℕ} → s + 16 ≤ 64 → left ≡ word / 2 ^ s → length bytes ≡ 16
        → ((k : ℕ) → k < 16 → get_or bytes k 0 ≡ cond (bit (left % 65536) k) FREE WALL) → AreBytesOf level row (64 * part + s) bytes
    bytes_drawn s {left} {bytes} fits goes len lanes = grind (arith, drawn)
      where
        shown_by : (q : Cell) (b : Bool) → cells.contains floor q ≡ b
            → IsShown level cells.empty q (cond b FREE WALL) × ((IsFloor level q → ⊥) → cond b FREE WALL ≡ WALL)
        shown_by q true has = let on = (is q).0 has in (inl (refl, on, cells.contains-empty cell_cmp q), λ none. absurd (none on))
        shown_by q false lacks = (
          inr (inl (refl, (λ on. not_both floor q ((is q).1 on) lacks), cells.contains-empty cell_cmp q)),
          λ _. refl,
        )

        drawn : (k : ℕ) → k < 16 → let q = cell_at (64 * part + s + k) row in
            IsShown level cells.empty q (get_or bytes k 0) × ((IsFloor level q → ⊥) → get_or bytes k 0 ≡ WALL)
        drawn k small =
            let q = cell_at (64 * part + s + k) row in
            let there : 64 * part + (s + k) ≡ 64 * part + s + k = omega arith in
            let same_cell : row_cell row part (s + k) ≡ q = λ i. cell_at (there i) row in
            let bit_is : bit (left % 65536) k ≡ cells.contains floor q = low_bits left k small ∙ ap (λ w. bit w k) goes ∙ bit_down word s k
            ∙ row_is (s + k) (omega (arith, fits, small)) ∙ ap (cells.contains floor) same_cell in
            subst (λ n. IsShown level cells.empty q n × ((IsFloor level q → ⊥) → n ≡ WALL)) (sym (lanes k small))
            (shown_by q (bit (left % 65536) k) (sym bit_is))
