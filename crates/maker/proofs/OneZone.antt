-- Why a level has at most one least zone, and why it refutes the level.
-- Two least zones have the same least k, so each lies within the other. The floor cells of a crowded set are a closed and crowded set
-- too, since boxes are on floor. A least zone lies within that set, so it is lawful.
use Rattle.std.proofs.Common.{◌≡◌, ◌≤◌, Bool, not, ◌&&◌, inl, inr, arith}
use Rattle.std.proofs.lemmas.Bool.{cases_lt, and_from}
use Rattle.std.specs.FinSet as set
use Rattle.std.specs.FinSet.{contains}
use Rattle.cellset.specs.Cell.{neighbor}
use Rattle.cellset.specs.Grid.{cells_where}
use Rattle.cellset.specs.CellSet.{Cells, Has}
use Rattle.cellset.specs.declared.cell.Cell.{Cell}
use Rattle.cellset.proofs.Members.{has_or_lacks, not_both, same_members}
use Rattle.cellset.proofs.ReadingOrder.{has_where, in_where}
use Rattle.cellset.proofs.Truth.{and_parts, not_true}
use Rattle.board.specs.Game.{Level, IsFloor}
use Rattle.board.specs.Board.{IsWellFormed}
use Rattle.certificates.proofs.Counts.{len-within}
use Rattle.certificates.proofs.Sets.{has_intersection, in_intersection}
use Rattle.certificates.specs.Zone.{count_in, IsRefuting}
use Rattle.maker.specs.Zones.{IsCrowded, IsLeastZone}
use Rattle.maker.proofs.Pairings.{count_within}

-- ---- one zone
same_k : (level : Level) (zone other : Cells) (a : IsLeastZone level zone) (b : IsLeastZone level other) → a.k ≡ b.k
same_k level zone other a b = elim (cases_lt a.k b.k) [
  | inl less ↦ absurd (b.none_before a.k zone less a.crowded)
  | inr at_least ↦ elim (cases_lt b.k a.k) [ inl more ↦ absurd (a.none_before b.k other more b.crowded) | inr at_most ↦ omega arith ]
]

least_within : (level : Level) (zone other : Cells) → IsLeastZone level zone → IsLeastZone level other → (c : Cell) → Has zone c → Has other c
least_within level zone other a b c has = a.within other c (rw (same_k level zone other a b) b.crowded) has

pub least_zones_one : (level : Level) (zone other : Cells) → IsLeastZone level zone → IsLeastZone level other → zone ≡ other
least_zones_one level zone other a b = search (same_members, least_within)

-- ---- the floor cells of a zone
abbrev floor_test : Level → Cells → Cell → Bool
floor_test level zone c = contains zone c && not (contains level.walls c)

abbrev floor_part : Level → Cells → Cells
floor_part level zone = cells_where level.shape (floor_test level zone)

has_floor : (level : Level) (zone : Cells) (c : Cell) → Has (floor_part level zone) c → Has zone c × IsFloor level c
has_floor level zone c h = grind (arith, in_where, and_parts, not_true)

in_floor : (level : Level) (zone : Cells) (c : Cell) → Has zone c → IsFloor level c → Has (floor_part level zone) c
in_floor level zone c has (on, no_wall) = grind (arith, has_where, and_from)

floor_crowded : (level : Level) (boxes zone : Cells) → IsWellFormed level → ((c : Cell) → Has boxes c → Has level.boxes c) → IsCrowded level boxes zone
    → IsCrowded level boxes (floor_part level zone)
floor_crowded level boxes zone formed among crowded =
    let part = floor_part level zone in
    let goals : count_in part level.goals ≤ count_in zone level.goals = len-within (set.intersection part level.goals) (set.intersection zone level.goals)
    (λ c h. let both = has_intersection part level.goals c h in in_intersection zone level.goals c (has_floor level zone c both.0).0 both.1) in
    let boxes_in : count_in zone boxes ≤ count_in part boxes = len-within (set.intersection zone boxes) (set.intersection part boxes)
    (λ c h. let both = has_intersection zone boxes c h in
    in_intersection part boxes c (in_floor level zone c both.0 (formed.boxes c (among c both.1))) both.1) in
    let more = crowded.more in
    record {
      closed = λ x d leak. has_or_lacks zone (neighbor x d)
          (λ inside. not_both part (neighbor x d) (in_floor level zone (neighbor x d) inside leak.ahead) leak.outside)
          (λ outside. crowded.closed x d (record {
            inside = (has_floor level zone x leak.inside).0;
            behind = leak.behind;
            ahead = leak.ahead;
            outside = outside;
          }));
      more = omega arith;
    }

least_floor : (level : Level) (zone : Cells) → IsWellFormed level → IsLeastZone level zone → (c : Cell) → Has zone c → IsFloor level c
least_floor level zone formed least c has =
    let (first, are, crowded) = least.crowded in
    (has_floor level zone c (least.within (floor_part level zone) c (first, are, floor_crowded level first zone formed are.boxes crowded) has)).1

pub least_zones_refute : (level : Level) (zone : Cells) → IsWellFormed level → IsLeastZone level zone → IsRefuting level zone
least_zones_refute level zone formed least =
    let (first, are, crowded) = least.crowded in
    let all = count_within zone first level.boxes are.boxes in
    let more = crowded.more in
    record {
      board = λ c h. (least_floor level zone formed least c h).0;
      wall = λ c h. (least_floor level zone formed least c h).1;
      closed = crowded.closed;
      more = omega arith;
    }
