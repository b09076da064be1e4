-- How the parts of a board grow, row by row.
-- A row comes as words with one bit per column. Each part of the row adds the cells whose bits are set, so after all parts the set
-- has what it had and the cells of the row whose character is of the kind. No other row changes. A set is known by its members, so
-- its size can be counted as if they were added one by one: one more character of a row changes the character of one cell alone,
-- which was a space before, and the count grows by one if that character is of the kind.
use Rattle.std.proofs.Common.{◌≡◌, ◌≢◌, ◌⊎◌, ℕ, zero, suc, ◌+◌, ◌-◌, ◌*◌, ◌<◌, ◌≤◌, Bool, true, false, cond, ◌||◌, List, [], ◌∷◌, ◌++◌, length, refl, sym, ◌∙◌}
use Rattle.std.proofs.Common.{ap, inr, ⊎_elim, arith, append_assoc}
use Rattle.std.proofs.lemmas.Bool.{cases_eq, cases_lt, cases_Bool, false≢true, cond-true, cond-false}
use Rattle.std.proofs.lemmas.List.{append-nil, get_or_append_left, get_or_past, get_or_push, length_push}
use Rattle.std.proofs.lemmas.List.Sums.{sum_by_push}
use Rattle.std.specs.List.{count_by}
use Rattle.std.specs.Prelude.{◌↔◌}
use Rattle.std.specs.FinSet as set
use Rattle.std.specs.FinSet.{contains, contains-insert, contains-empty, contains-union, len-insert, len-empty}
use Rattle.cellset.specs.Shape.{Extent}
use Rattle.cellset.specs.Cell.{cell_at, cell_cmp}
use Rattle.cellset.specs.CellSet.{Cells, CellsOn, Has, Lacks}
use Rattle.cellset.specs.RowBits.{row_cell, IsRowOn, cells_of_row}
use Rattle.cellset.specs.declared.cell.Cell.{Cell}
use Rattle.cellset.proofs.Members.{cells_total, same_cells, same, same_itself, same_or_other}
use Rattle.cellset.proofs.Rows.{has_in_row, row_has}
use Rattle.cellset.proofs.Truth.{left_true, right_true, or_cases}
use Rattle.board.specs.Characters.{space}
use Rattle.board.specs.Rows.{nth, character_at}
use Rattle.board.specs.Legal.{count_of_kind}
use Rattle.board.specs.Parts.{HasRows, ShowsKind, IsDrawn, AreDrawn, IsWordOf}
use Rattle.board.specs.declared.parts.Parts.{Parts}

-- ---- places counted from 1
pub nth-nil : {A : Type 0} (n : ℕ) (d : A) → nth [] n d ≡ d
nth-nil zero d = refl
nth-nil (suc k) d = refl

pub nth_past : {A : Type 0} (xs : List A) (n : ℕ) (d : A) → length xs < n → nth xs n d ≡ d
nth_past xs zero d past = refl
nth_past xs (suc k) d past = get_or_past xs k d (omega arith)

nth_push : {A : Type 0} (xs : List A) (x d : A) → nth (xs ++ x ∷ []) (length xs + 1) d ≡ x
nth_push xs x d = grind (arith, get_or_push)

nth_push_other : {A : Type 0} (xs : List A) (x d : A) (n : ℕ) → n ≢ length xs + 1 → nth (xs ++ x ∷ []) n d ≡ nth xs n d
nth_push_other xs x d zero other = refl
nth_push_other xs x d (suc k) other = grind (arith, get_or_append_left, cases_eq, length_push, get_or_past, cases_lt)

-- ---- characters
pub no_rows : (q : Cell) → character_at [] q ≡ space
no_rows q = search (nth-nil)

empty_row : (done : List (List ℕ)) (q : Cell) → character_at (done ++ [] ∷ []) q ≡ character_at done q
empty_row done q = grind (arith, nth_push, nth_past, nth_push_other, cases_eq)

at_next : (done : List (List ℕ)) (part : List ℕ) (b : ℕ) → character_at (done ++ (part ++ b ∷ []) ∷ []) (cell_at (length part + 1) (length done + 1)) ≡ b
at_next done part b = search (nth_push)

before_next : (done : List (List ℕ)) (part : List ℕ) → character_at (done ++ part ∷ []) (cell_at (length part + 1) (length done + 1)) ≡ space
before_next done part = grind (arith, nth_push, nth_past)

at_others : (done : List (List ℕ)) (part : List ℕ) (b : ℕ) (q : Cell) → same q (cell_at (length part + 1) (length done + 1)) ≡ false
    → character_at (done ++ (part ++ b ∷ []) ∷ []) q ≡ character_at (done ++ part ∷ []) q
at_others done part b q other = grind (arith, false≢true, same, same_itself, nth_push, nth_push_other, cases_eq)

-- ---- sets of cells of one kind
-- the columns before 64 * parts of a row are added, where their characters are of the kind, and no others
pub record IsRowDrawn (is_kind : ℕ → Bool) (line : List ℕ) (row parts : ℕ) (old new : Cells) : Type 0 where
  pub kept : (q : Cell) → Has old q → Has new q
  pub added : (q : Cell) → q.row ≡ row → q.column < 64 * parts → is_kind (nth line q.column space) ≡ true → Has new q
  pub only : (q : Cell) → Has new q → Has old q ⊎ ((q.row ≡ row) × (is_kind (nth line q.column space) ≡ true))

same_truth : (a b : Bool) → (a ≡ true → b ≡ true) → (b ≡ true → a ≡ true) → a ≡ b
same_truth true b there back = sym (there refl)
same_truth false true there back = back refl
same_truth false false there back = refl

module _ (is_kind : ℕ → Bool) (no_floor : is_kind space ≡ false) where
  drawn_none : (cells : Cells) → cells ≡ set.empty → IsDrawn is_kind [] cells
  drawn_none cells e = record {
    shows = λ q. ap (λ s. contains s q) e ∙ contains-empty cell_cmp q ∙ sym (ap is_kind (no_rows q) ∙ no_floor);
    count = ap set.len e ∙ len-empty cell_cmp;
  }

  drawn_row : (done : List (List ℕ)) (cells : Cells) → IsDrawn is_kind done cells → IsDrawn is_kind (done ++ [] ∷ []) cells
  drawn_row done cells d = grind (arith, empty_row, sum_by_push)

  drawn_shows : (done : List (List ℕ)) (part : List ℕ) (b : ℕ) (cells : Cells) → ShowsKind is_kind (done ++ part ∷ []) cells
      → ShowsKind is_kind (done ++ (part ++ b ∷ []) ∷ []) (cond (is_kind b) (set.insert cells (cell_at (length part + 1) (length done + 1))) cells)
  drawn_shows done part b cells shows q =
      let k = cell_at (length part + 1) (length done + 1) in
      ⊎_elim
      (λ yes. ap (λ (s : Cells). contains s q) (cond-true _ _ _ yes) ∙ contains-insert cells_total cells k q ∙ same_or_other q k
      (λ here. grind (arith, same_itself, at_next))
      (λ other. ap (λ v. v || contains cells q) other ∙ shows q ∙ ap is_kind (sym (at_others done part b q other))))
      (λ no. grind (arith, cond-false, same_or_other, before_next, at_next, at_others)) (cases_Bool (is_kind b))

  drawn_count : (done : List (List ℕ)) (part : List ℕ) (b : ℕ) (cells : Cells) → IsDrawn is_kind (done ++ part ∷ []) cells
      → set.len (cond (is_kind b) (set.insert cells (cell_at (length part + 1) (length done + 1))) cells) ≡ count_of_kind is_kind
      (done ++ (part ++ b ∷ []) ∷ [])
  drawn_count done part b cells d =
      let k = cell_at (length part + 1) (length done + 1) in
      let whole = sum_by_push (count_by is_kind) done (part ++ b ∷ []) in
      let before = sum_by_push (count_by is_kind) done part in
      let row : count_by is_kind (part ++ b ∷ []) ≡ count_by is_kind part + cond (is_kind b) 1 0 = sum_by_push (λ x. cond (is_kind x) 1 0) part b in
      let so_far = d.count in
      let absent : contains cells k ≡ false = d.shows k ∙ ap is_kind (before_next done part) ∙ no_floor in
      ⊎_elim
      (λ yes.
      let size = ap set.len (cond-true (is_kind b) (set.insert cells k) cells yes) ∙ len-insert cells_total cells k
      ∙ ap (λ v. cond v (set.len cells) (set.len cells + 1)) absent in
      grind (arith, cond-true))
      (λ no.
      grind (arith, cond-false))
      (cases_Bool (is_kind b))

  drawn_more : (done : List (List ℕ)) (part : List ℕ) (b : ℕ) (cells : Cells) → IsDrawn is_kind (done ++ part ∷ []) cells
      → IsDrawn is_kind (done ++ (part ++ b ∷ []) ∷ []) (cond (is_kind b) (set.insert cells (cell_at (length part + 1) (length done + 1))) cells)
  drawn_more done part b cells d = search (drawn_shows, drawn_count)

  more_columns : (done : List (List ℕ)) (part rest : List ℕ) (cells : Cells) → IsDrawn is_kind (done ++ part ∷ []) cells
      → (all : Cells) × IsDrawn is_kind (done ++ (part ++ rest) ∷ []) all
  more_columns done part [] cells d = search (append-nil)
  more_columns done part (b ∷ rest) cells d =
      let more = more_columns done (part ++ b ∷ []) rest _ (drawn_more done part b cells d) in
      (more.0, rw (append_assoc part (b ∷ []) rest) at more.1)

  more_rows : (done rest : List (List ℕ)) (cells : Cells) → IsDrawn is_kind done cells → (all : Cells) × IsDrawn is_kind (done ++ rest) all
  more_rows done [] cells d = search (append-nil)
  more_rows done (row ∷ rest) cells d =
      let here = more_columns done [] row cells (drawn_row done cells d) in
      let more = more_rows (done ++ row ∷ []) rest here.0 here.1 in
      (more.0, rw (append_assoc done (row ∷ []) rest) at more.1)

  -- a set that shows the kind is the one whose cells were put in one by one
  counted : (rows : List (List ℕ)) (cells : Cells) → ShowsKind is_kind rows cells → IsDrawn is_kind rows cells
  counted rows cells shows =
      let all = more_rows [] rows set.empty (drawn_none set.empty refl) in
      record { shows = shows; count = ap set.len (same_cells cells all.0 (λ q. shows q ∙ sym (all.1.shows q))) ∙ all.1.count }

  -- ---- a row, part by part
  -- a character of the kind is in a column of the row, because off the row there are only spaces
  of_row : (line : List ℕ) (column : ℕ) → is_kind (nth line column space) ≡ true → (1 ≤ column) × (column ≤ length line)
  of_row line zero is = grind (arith, false≢true)
  of_row line (suc k) is = (
    omega arith,
    ⊎_elim
        (λ inside. omega arith)
        (λ past. absurd (false≢true (sym no_floor ∙ ap is_kind (sym (nth_past line (suc k) space (omega arith))) ∙ is))) (cases_lt k (length line)),
  )

  -- the bits of a row's part are of cells on the grid
  pub word_on : (line : List ℕ) (row part word : ℕ) (shape on : Extent) → on ≡ shape → (1 ≤ row) × (row ≤ shape.height) → length line ≤ shape.width
      → IsWordOf is_kind line part word → IsRowOn on row part word
  word_on line row part word shape on same high wide is k small one = grind (arith, of_row)

  pub part_added : (line : List ℕ) (row part word : ℕ) (old now next : Cells) → IsWordOf is_kind line part word
      → next ≡ set.union now (cells_of_row row part word) → IsRowDrawn is_kind line row part old now → IsRowDrawn is_kind line row (part + 1) old next
  part_added line row part word old now next is union so_far = record {
    kept = λ q h. kept q (so_far.kept q h);
    added = λ q here low shows. ⊎_elim
        (λ before. kept q (so_far.added q here before shows))
        (λ from.
        let k = q.column - 64 * part in
        let column : q.column ≡ 64 * part + k = omega arith in
        let place : q ≡ row_cell row part k = ap (λ n. cell_at n q.row) column ∙ ap (cell_at (64 * part + k)) here in
        let small : k < 64 = omega arith in
        now_has q ∙ right_true (contains now q) (contains (cells_of_row row part word) q)
        (rw place (row_has row part word 64 k small (is k small ∙ ap (λ n. is_kind (nth line n space)) (sym column) ∙ shows))))
        (cases_lt q.column (64 * part));
    only = λ q h. or_cases (contains now q) (contains (cells_of_row row part word) q) (sym (now_has q) ∙ h)
        (λ was. so_far.only q was)
        (λ here. let i = has_in_row row part word 64 q here in inr
        (ap (λ c. c.row) i.here, ap (λ c. is_kind (nth line c.column space)) i.here ∙ sym (is i.k i.below) ∙ i.is_set));
  }
    where
      now_has : (q : Cell) → contains next q ≡ (contains now q || contains (cells_of_row row part word) q)
      now_has q = ap (λ s. contains s q) union ∙ contains-union cells_total now (cells_of_row row part word) q

      kept : (q : Cell) → Has now q → Has next q
      kept q h = now_has q ∙ left_true (contains now q) (contains (cells_of_row row part word) q) h

  row_drawn_shows : (done : List (List ℕ)) (line : List ℕ) (row parts : ℕ) (old new : Cells) → length done + 1 ≡ row → length line < 64 * parts
      → ShowsKind is_kind done old → IsRowDrawn is_kind line row parts old new → ShowsKind is_kind (done ++ line ∷ []) new
  row_drawn_shows done line row parts old new at long shows drawn q = grind (arith, same_truth, false≢true, cases_eq, of_row, below, elsewhere, in_line)
    where
      in_line : (q : Cell) → q.row ≡ length done + 1 → character_at (done ++ line ∷ []) q ≡ nth line q.column space
      in_line q here = ap (λ r. nth r q.column space) (ap (λ n. nth (done ++ line ∷ []) n []) here ∙ nth_push done line [])

      elsewhere : (q : Cell) → q.row ≢ length done + 1 → character_at (done ++ line ∷ []) q ≡ character_at done q
      elsewhere q other = ap (λ r. nth r q.column space) (nth_push_other done line [] q.row other)

      below : (q : Cell) → q.row ≡ length done + 1 → character_at done q ≡ space
      below q here = grind (arith, nth_past, nth-nil)

  pub row_drawn : (done : List (List ℕ)) (line : List ℕ) (row parts : ℕ) (old new : Cells) → length done + 1 ≡ row → length line < 64 * parts
      → IsDrawn is_kind done old → IsRowDrawn is_kind line row parts old new → IsDrawn is_kind (done ++ line ∷ []) new
  row_drawn done line row parts old new at long was drawn = search (counted, row_drawn_shows)

-- ---- the floor loses the cells that the walls gain
pub floor_less : {On Was Now : Type 0} (walls row : Cells) (q : Cell) → (Was ↔ (On × Lacks walls q)) → (Now ↔ (Was × Lacks row q))
    → Now ↔ (On × Lacks (set.union walls row) q)
floor_less walls row q was now = grind (arith, contains-union, cells_total)

-- ---- the four sets
module _ {S : Type 0} (members : S → Cells) where
  pub blank_drawn : (s : Parts S) → members s.walls ≡ set.empty → members s.goals ≡ set.empty → members s.boxes ≡ set.empty → members s.room ≡ set.empty
      → AreDrawn [] members s
  blank_drawn s walls goals boxes players = search (drawn_none)

-- a row's part is added to the sets, and its walls are taken from the floor
pub rows_more : {S : Type 0} (extent : S → Extent) (members : S → Cells) (s : Parts S) (none row : Cells) (walls goals boxes room : S) (floor : CellsOn)
    → HasRows extent members s none → extent walls ≡ extent s.walls → extent goals ≡ extent s.goals → extent boxes ≡ extent s.boxes → extent room ≡ extent s.room
    → members walls ≡ set.union (members s.walls) row → floor.extent ≡ s.floor.extent → ((q : Cell) → Has floor.members q ↔ (Has s.floor.members q × Lacks row q))
    → HasRows extent members (record { shape = s.shape; walls = walls; goals = goals; boxes = boxes; room = room; floor = floor; region = s.region }) none
rows_more extent members s none row walls goals boxes room floor was wall goal box player added same less = record {
  wall = wall ∙ was.wall;
  goal = goal ∙ was.goal;
  box = box ∙ was.box;
  player = player ∙ was.player;
  floor_extent = same ∙ was.floor_extent;
  floor = λ q. rw added (floor_less _ _ q (was.floor q) (less q));
  region_extent = was.region_extent;
  region = was.region;
}
