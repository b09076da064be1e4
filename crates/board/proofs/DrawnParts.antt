-- The parts of a board, from the sets that its rows show.
-- A cell whose character is not a space lies on the grid of the rows, since there are only spaces off the rows. The characters of
-- players and boxes are no wall's, and none is both a player's and a box's. So whatever the rows are, the player and the boxes are
-- on floor, and not in one cell. If the rows have one player, the set of players has one member, and what walks over the floor reach
-- from it is the room. Two levels with the parts of the same rows are equal, since sets with the same members are.
use Rattle.std.proofs.Common.{◌≡◌, ◌≢◌, ℕ, zero, suc, ◌-◌, ◌≤◌, true, false, cond, ◌==◌, List, [], ◌∷◌, length, Option, Some, None, refl, sym, ◌∙◌}
use Rattle.std.proofs.Common.{ap, ⊎_elim, arith}
use Rattle.std.specs.Prelude.{◌↔◌, All, MatchOption}
use Rattle.std.proofs.lemmas.Bool.{cases_lt, false≢true, eqb-true, eq-eqb}
use Rattle.std.proofs.lemmas.List.Elements.{All-head, All-get_or}
use Rattle.std.specs.FinSet as set
use Rattle.std.specs.FinSet.{contains-empty, empty_of_len, len-remove, len-empty}
use Rattle.cellset.specs.Shape.{Extent, HasSides}
use Rattle.cellset.specs.Cell.{IsOn, cell_at, cell_cmp, neighbor}
use Rattle.cellset.specs.CellSet.{Cells, Has, IsFirstFrom, only}
use Rattle.cellset.specs.declared.cell.Cell.{Cell}
use Rattle.cellset.proofs.Members.{cells_total, same_cells, has_or_lacks, same_itself, same_or_other, inserted, kept_by_remove, has_empty, has_only, lacks_only}
use Rattle.cellset.proofs.ReadingOrder.{none_past}
use Rattle.reach.specs.Reached.{Reached, WalksTo}
use Rattle.reach.specs.Region.{Joined, at_seed, beside}
use Rattle.reach.proofs.Instances.{joined_is, walked_more}
use Rattle.cellset.proofs.Truth.{or_cases}
use Rattle.board.specs.Game.{Level, IsFloor}
use Rattle.board.specs.Board.{IsWellFormed}
use Rattle.board.specs.Levels.{IsBoardLine, IsRun}
use Rattle.board.specs.Characters.{is_wall, is_player, is_box, is_goal, space}
use Rattle.board.specs.Rows.{nth, character_at, width_of, Draws, is_one_of}
use Rattle.board.specs.Parts.{ShowsKind, extent_of}
use Rattle.board.specs.Legal.{ArePartsOf}
use Rattle.board.proofs.Drawing.{nth-nil, nth_past}

pub all_within_width : (rows : List (List ℕ)) → All (λ row. length row ≤ width_of rows) rows
all_within_width [] = grind arith
all_within_width (row ∷ rows) = grind (arith, all_within_width rows)

has_bytes : (line : List ℕ) → IsBoardLine line → 1 ≤ length line
has_bytes [] board = absurd (false≢true board)
has_bytes (b ∷ line) board = omega arith

pub run_sides : (rows : List (List ℕ)) → IsRun rows → (1 ≤ width_of rows) × (1 ≤ length rows)
run_sides [] run = search
run_sides (row ∷ rows) run = let first = has_bytes row (All-head IsBoardLine row rows run.board) in (omega arith, omega arith)

-- off the rows there are only spaces
on_rows : (rows : List (List ℕ)) (row column : ℕ) → nth (nth rows row []) column space ≢ space → IsOn (extent_of rows) (cell_at column row)
on_rows rows zero column some = search (nth-nil)
on_rows rows (suc k) zero some = absurd (some refl)
on_rows rows (suc k) (suc j) some = record {
  top = omega arith;
  bottom = below;
  left = omega arith;
  right = ⊎_elim
      (λ inside. let wide = All-get_or (λ r. length r ≤ width_of rows) rows k [] (omega (arith, below)) (all_within_width rows) in omega arith)
      (λ past. absurd (some (nth_past (nth rows (suc k) []) (suc j) space (omega arith)))) (cases_lt j (length (nth rows (suc k) [])));
}
  where
    below : suc k ≤ length rows
    below = ⊎_elim
        (λ inside. omega arith)
        (λ past. absurd (some (ap (λ r. nth r (suc j) space) (nth_past rows (suc k) [] (omega arith))))) (cases_lt k (length rows))

pub on_grid : (rows : List (List ℕ)) (c : Cell) → character_at rows c ≢ space → IsOn (extent_of rows) c
on_grid rows c some = on_rows rows c.row c.column some

-- ---- characters
-- what holds of two characters holds of a byte that is one of them
one_of_two : (x y b : ℕ) (P : ℕ → Type 0) → is_one_of (x ∷ y ∷ []) b ≡ true → P x → P y → P b
one_of_two x y b P is at_x at_y = grind (arith, or_cases, eqb-true, false≢true)

-- the byte is no wall and no space
pub record IsApart (b : ℕ) : Type 0 where
  pub no_wall : is_wall b ≡ false
  pub no_floor : b ≢ space

-- two bytes that compare as different differ
other_code : (a b : ℕ) → (a == b) ≡ false → a ≢ b
other_code a b e is = grind (arith, false≢true, eq-eqb)

pub box_apart : (b : ℕ) → is_box b ≡ true → IsApart b
box_apart b is = grind (arith, one_of_two, other_code)

pub player_apart : (b : ℕ) → is_player b ≡ true → IsApart b
player_apart b is = grind (arith, one_of_two, other_code)

pub player_no_box : (b : ℕ) → is_player b ≡ true → is_box b ≡ false
player_no_box b is = grind (arith, one_of_two)

-- ---- the one member of a set
other_member : (s : Cells) (m q : Cell) → set.len s ≡ 1 → Has s m → Has s q → q ≢ m → ⊥
other_member s m q one has_m has_q other =
    let fewer = len-remove cells_total s m ∙ ap (λ v. cond v (set.len s - 1) (set.len s)) has_m in
    let none : set.len (set.remove s m) ≡ 0 = omega arith in
    has_empty q (rw (empty_of_len (set.remove s m) none) at (kept_by_remove s m q other has_q))

pub is_only : (s : Cells) (m : Cell) → set.len s ≡ 1 → Has s m → s ≡ only m
is_only s m one has = grind (arith, same_cells, same_or_other, inserted, has_or_lacks, other_member, false≢true, same_itself, lacks_only)

-- the first member of a set with one member is that member
pub first_is_only : (shape : Extent) (s : Cells) (from : Cell) (r : Option Cell) → set.len s ≡ 1 → ((c : Cell) → Has s c → IsOn shape c)
    → IsOn shape (cell_at 1 1) → from ≡ cell_at 1 1 → IsFirstFrom s from r → MatchOption r (set.len s ≢ 1) (λ c. (set.len s ≡ 1) × (s ≡ only c) × IsOn shape c)
first_is_only shape s from None one on corner at first =
    absurd (let none : s ≡ set.empty = same_cells s set.empty
    (λ q. has_or_lacks s q (λ has. absurd (none_past shape (Some from) (corner, at) q (on q has) (first q has)))
    (λ lacks. lacks ∙ sym (contains-empty cell_cmp q))) in
    let zero_len = ap set.len none ∙ len-empty cell_cmp in omega arith)
first_is_only shape s from (Some m) one on corner at first = search (is_only)

-- ---- the room
joined_free : (F S : Cell → Type 0) (c : Cell) → Joined F S c → F c
joined_free F S c (at_seed seed free) = free
joined_free F S c (beside d before free) = free

-- the room is what walks over the floor reach from the player
pub record IsWalked (level : Level) : Type 0 where
  pub floor : Cells
  pub start : Cells
  pub floor_is : (c : Cell) → Has floor c ↔ IsFloor level c
  pub start_is : (c : Cell) → Has start c ↔ (c ≡ level.player)
  pub reached : (c : Cell) → Has level.room c ↔ Reached (WalksTo (Has floor)) (Has start) c

room_is : (level : Level) → IsFloor level level.player → IsWalked level → (c : Cell) → Has level.room c ↔ Joined (IsFloor level) (λ seed. seed ≡ level.player) c
room_is level on w c = grind (arith, joined_is, walked_more)

floor_from : (rows : List (List ℕ)) (level : Level) → Draws rows level → (c : Cell) → IsApart (character_at rows c) → IsFloor level c
floor_from rows level p c apart = grind (arith, on_grid)

player_on : (rows : List (List ℕ)) (level : Level) → Draws rows level → IsFloor level level.player
player_on rows level p = floor_from rows level p level.player (player_apart _ ((p.player level.player).1 refl))

-- ---- the parts, and what holds of them
pub parts : (rows : List (List ℕ)) (level : Level) (players : Cells) → level.shape ≡ extent_of rows → ShowsKind is_wall rows level.walls
    → ShowsKind is_goal rows level.goals → ShowsKind is_box rows level.boxes → ShowsKind is_player rows players → players ≡ only level.player
    → IsWalked level → ArePartsOf rows level
parts rows level players shape walls goals boxes shown one walked = record { drawn = drawn; room = room_is level (player_on rows level drawn) walked }
  where
    drawn : Draws rows level
    drawn = record {
      shape = shape;
      walls = walls;
      goals = goals;
      boxes = boxes;
      player = λ c. (
        (λ is. has_only level.player c (rw one at (shown c ∙ is))),
        (λ here. sym (shown c) ∙ rw (one, here) (inserted set.empty level.player)),
      );
    }

pub formed : (rows : List (List ℕ)) (level : Level) → HasSides level.shape.width level.shape.height → ArePartsOf rows level → IsWellFormed level
formed rows level sides p =
    let drawn = p.drawn in
    let player_is : is_player (character_at rows level.player) ≡ true = (drawn.player level.player).1 refl in
    let player_floor = player_on rows level drawn in
    record {
      sides = sides;
      boxes = λ c has. floor_from rows level drawn c (box_apart (character_at rows c) (sym (drawn.boxes c) ∙ has));
      player = player_floor;
      apart = drawn.boxes level.player ∙ player_no_box (character_at rows level.player) player_is;
      room = λ c has. joined_free (IsFloor level) (λ seed. seed ≡ level.player) c ((p.room c).0 has);
      here = (p.room level.player).1 (at_seed refl player_floor);
      goes_on = λ c d has free. (p.room (neighbor c d)).1 (beside d ((p.room c).0 has) free);
      joined = λ c has. (p.room c).0 has;
    }
