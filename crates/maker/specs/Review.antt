-- One step of the search for the largest frozen set.
use Rattle.std.specs.Prelude.{◌≡◌, ℕ, ◌+◌, ◌*◌, ◌≤◌, ◌⊎◌, List, length}
use Rattle.std.specs.List.{Contains}
use Rattle.std.specs.FinSet as set
use Rattle.cellset.specs.Cell.{neighbor}
use Rattle.cellset.specs.CellSet.{Cells, Has, Lacks}
use Rattle.cellset.specs.declared.cell.Cell.{Cell}
use Rattle.cellset.specs.declared.dir.Dir.{Dir}
use Rattle.board.specs.Game.{Level}
use Rattle.maker.specs.Frozen.{IsHeld}

-- The work left is four times the number of boxes in the set, plus the length of the worklist.
abbrev pub work_left : Cells → List Cell → ℕ
work_left frozen work = 4 * set.len frozen + length work

-- The box at b is held in every direction, or it has left the set and its neighbours in the set are queued.
pub record IsReviewed (level : Level) (dead : Cells) (b : Cell) (frozen : Cells) (work : List Cell) (frozen' : Cells) (work' : List Cell) : Type 0 where
  pub kept : (q : Cell) → Has frozen' q → Has frozen q
  pub lost : (q : Cell) → Has frozen q → Has frozen' q ⊎ ((q ≡ b) × (d : Dir) × (IsHeld level dead frozen b d → ⊥))
  pub held : Has frozen' b → (d : Dir) → IsHeld level dead frozen' b d
  pub waiting : (q : Cell) → Contains work q → Contains work' q
  pub around : Has frozen b → Lacks frozen' b → (d : Dir) → Has frozen' (neighbor b d) → Contains work' (neighbor b d)
  pub less : work_left frozen' work' ≤ work_left frozen work
