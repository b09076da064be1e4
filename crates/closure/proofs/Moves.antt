-- Pushes on a board. A push moves one box to floor, so boxes that were on floor are on floor after it. Boxes that are among others stay so if
-- both are pushed, or if the push moves a box that they lack.
use Rattle.std.proofs.Common.{inl, inr}
use Rattle.std.specs.FinSet as set
use Rattle.cellset.specs.{CellSet.Cells, CellSet.Has, CellSet.Lacks, declared.cell.Cell.Cell}
use Rattle.cellset.proofs.Members.{has_or_lacks, not_both, inserted, kept_by_insert, has_insert, kept_by_remove, has_remove}
use Rattle.board.specs.Game.{Level, IsFloor, moved}

-- Each box is on floor.
abbrev pub AreOnFloor : Level → Cells → Type 0
AreOnFloor level boxes = (c : Cell) → Has boxes c → IsFloor level c

-- a push leaves the boxes on the floor
pub moved_on_floor : (level : Level) (boxes : Cells) (from to : Cell) → AreOnFloor level boxes → IsFloor level to → AreOnFloor level (moved boxes from to)
moved_on_floor level boxes from to floor here c h =
    elim (has_insert (set.remove boxes from) to c h) [
      | inl e ↦ rw e here
      | inr rest ↦ floor c (has_remove boxes from c rest).1
    ]

abbrev pub IsWithin : Cells → Cells → Type 0
IsWithin few many = (c : Cell) → Has few c → Has many c

pub lacks_within : (few many : Cells) (c : Cell) → IsWithin few many → Lacks many c → Lacks few c
lacks_within few many c within lacks = has_or_lacks few c (λ has. not_both many c (within c has) lacks) (λ l. l)

-- If one push changes two sets, the first stays within the second.
pub moved_within : (few many : Cells) (from to : Cell) → IsWithin few many → IsWithin (moved few from to) (moved many from to)
moved_within few many from to within c h =
    elim (has_insert (set.remove few from) to c h) [
      | inl e ↦ rw e (inserted (set.remove many from) to)
      | inr rest ↦
          let old = has_remove few from c rest in
          kept_by_insert (set.remove many from) to c (kept_by_remove many from c old.0 (within c old.1))
    ]

-- If a push changes the larger of two sets by a box that the smaller one lacks, the smaller one stays within it.
pub moved_beside : (few many : Cells) (from to : Cell) → Lacks few from → IsWithin few many → IsWithin few (moved many from to)
moved_beside few many from to lacks within c has =
    kept_by_insert (set.remove many from) to c (kept_by_remove many from c (λ e. not_both few from (rw e at has) lacks) (within c has))
