-- The counts of a play: its moves, its pushes and its changes of box.
--   number of a box    its place in the list of the boxes, which begins in reading order; a box that is pushed keeps it
--   change             a push that is the first, or whose box has another number than that of the push before
use Rattle.std.specs.Prelude.{◌≡◌, ℕ, ◌+◌, ◌==◌, if◌then◌else◌, Option, List, [], ◌∷◌, ◌++◌, map, length, option_to_list}
use Rattle.std.specs.List.{position}
use Rattle.std.specs.Ordering.{eq_by_cmp}
use Rattle.std.specs.List.Sorted.{IsStrictlySortedBy}
use Rattle.std.specs.FinSet.{from_list}
use Rattle.cellset.specs.Cell.{cell_cmp, neighbor}
use Rattle.cellset.specs.CellSet.{Cells}
use Rattle.cellset.specs.declared.cell.Cell.{Cell}
use Rattle.cellset.specs.declared.dir.Dir.{Dir}
use Rattle.board.specs.Game.{Level}
use Rattle.play.specs.declared.tally.Tally.{Tally}

-- the list has the cells of a set, each once, in reading order
pub record IsInReadingOrder (cells : List Cell) (s : Cells) : Type 0 where
  pub sorted : IsStrictlySortedBy cell_cmp cells
  pub members : from_list cells ≡ s

-- the number of the box at a cell, if one is there
abbrev pub number_at : List Cell → Cell → Option ℕ
number_at boxes c = position (eq_by_cmp cell_cmp c) boxes

-- the numbered boxes after the player stepped onto a cell by d: a box that stood there moved on
abbrev pub stepped : List Cell → Cell → Dir → List Cell
stepped boxes c d = map (λ b. if eq_by_cmp cell_cmp c b then neighbor c d else b) boxes

-- the numbers of the boxes that the steps of a play push, one for each push
abbrev pub pushed_numbers : Cell → List Cell → List Dir → List ℕ
pushed_numbers player boxes [] = []
pushed_numbers player boxes (d ∷ ds) =
    let ahead = neighbor player d in
    option_to_list (number_at boxes ahead) ++ pushed_numbers ahead (stepped boxes ahead d) ds

-- how many of these numbers differ from the one before, where this number comes before the first
abbrev pub changes_from : ℕ → List ℕ → ℕ
changes_from last [] = 0
changes_from last (n ∷ ns) = (if n == last then 0 else 1) + changes_from n ns

-- how many of these numbers are the first or differ from the one before
abbrev pub changes : List ℕ → ℕ
changes [] = 0
changes (n ∷ ns) = 1 + changes_from n ns

-- the counts of a play from the start
pub record Counts (level : Level) (ds : List Dir) (tally : Tally) : Type 0 where
  pub boxes : List Cell
  pub numbered : IsInReadingOrder boxes level.boxes
  pub moves : tally.moves ≡ length ds
  pub pushes : tally.pushes ≡ length (pushed_numbers level.player boxes ds)
  pub changes : tally.changes ≡ changes (pushed_numbers level.player boxes ds)
