-- How the text of a map grows.
-- A row gets a character for each of its columns, by induction on them, and then LF. So each line has one byte more than
-- the level is wide, and lines of that length fill the room that is reserved for all of them.
use Rattle.std.proofs.Common.{◌≡◌, ◌≤◌, ◌<◌, ◌+◌, ◌*◌, ℕ, zero, suc, List, [], ◌∷◌, ◌++◌, length, refl, ◌∙◌, sym, ap, ap₂, arith, add-one, append_assoc, length-append}
use Rattle.std.proofs.Math.Nat.{mul-le-mul_left}
use Rattle.cellset.specs.Cell.{cell_at}
use Rattle.cellset.specs.CellSet.{Cells}
use Rattle.cellset.specs.declared.cell.Cell.{Cell}
use Rattle.board.specs.Game.{Level}
use Rattle.report.specs.DeadMap.{character_of, row_text, rows_text}

-- ---- one row

-- the text of the first n cells of a row has n characters
length-row_text : (level : Level) (dead : Cells) (row n : ℕ) → length (row_text level dead row n) ≡ n
length-row_text level dead row zero = refl
length-row_text level dead row (suc n) =
    let all = length-append (row_text level dead row n) (character_of level dead (cell_at (suc n) row) ∷ []) in
    let before = length-row_text level dead row n in
    omega arith

row_text-more : (level : Level) (dead : Cells) (row n : ℕ) → row_text level dead row (n + 1) ≡ row_text level dead row n
    ++ character_of level dead (cell_at (n + 1) row) ∷ []
row_text-more level dead row n = rw add-one refl

-- a text and the characters of n cells after it are longer by n
pub length_in_row : (level : Level) (dead : Cells) (row n : ℕ) (old text : List ℕ) → text ≡ old ++ row_text level dead row n → length text ≡ length old + n
length_in_row level dead row n old text is =
    ap length is ∙ length-append old (row_text level dead row n) ∙ ap (λ k. length old + k) (length-row_text level dead row n)

-- the text grows by the character of the next column
pub row_more : (level : Level) (dead : Cells) (row n : ℕ) (old text new : List ℕ) (cell : Cell) (byte : ℕ)
    → text ≡ old ++ row_text level dead row n → cell ≡ cell_at (n + 1) row → byte ≡ character_of level dead cell
    → new ≡ text ++ byte ∷ [] → new ≡ old ++ row_text level dead row (n + 1)
row_more level dead row n old text new cell byte is at byte_is more =
    let next = character_of level dead (cell_at (n + 1) row) in
    let same : byte ≡ next = byte_is ∙ ap (character_of level dead) at in
    more ∙ ap₂ (λ (t : List ℕ) (b : ℕ). t ++ b ∷ []) is same ∙ append_assoc old (row_text level dead row n) (next ∷ [])
    ∙ ap (λ line. old ++ line) (sym (row_text-more level dead row n))

-- the text of a whole row and LF are the line of the row
pub row_end : (level : Level) (dead : Cells) (row n : ℕ) (old text new : List ℕ) → text ≡ old ++ row_text level dead row n → n ≡ level.shape.width
    → new ≡ text ++ 10 ∷ [] → new ≡ old ++ (row_text level dead row level.shape.width ++ 10 ∷ [])
row_end level dead row n old text new is wide more =
    let all : text ≡ old ++ row_text level dead row level.shape.width = is ∙ ap (λ k. old ++ row_text level dead row k) wide in
    more ∙ ap (λ t. t ++ 10 ∷ []) all ∙ append_assoc old (row_text level dead row level.shape.width) (10 ∷ [])

-- ---- the rows

-- the lines of n rows have n times one byte more than the width
length-rows_text : (level : Level) (dead : Cells) (n : ℕ) → length (rows_text level dead n) ≡ (level.shape.width + 1) * n
length-rows_text level dead zero = omega arith
length-rows_text level dead (suc n) =
    let row = row_text level dead (suc n) level.shape.width in
    let all = length-append (rows_text level dead n) (row ++ 10 ∷ []) in
    let last = length-append row (10 ∷ []) in
    let wide = length-row_text level dead (suc n) level.shape.width in
    let before = length-rows_text level dead n in
    omega arith

-- the room for all lines has room for the next one
pub room_for_row : (level : Level) (dead : Cells) (n room : ℕ) (text : List ℕ) → text ≡ rows_text level dead n → n < level.shape.height
    → (level.shape.width + 1) * level.shape.height ≤ room → length text + (level.shape.width + 1) ≤ room
room_for_row level dead n room text is above fits = grind (arith, length-rows_text, mul-le-mul_left)
