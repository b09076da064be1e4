-- Why a closed zone with more boxes than goals refutes a level. The player never leaves the room, since each floor cell beside the
-- room is in the room and boxes are on floor. So a push of a box in the zone is no leak only if its box stays inside, and no push makes
-- the boxes inside fewer. In a solved state each of them is on a goal inside, so there are no more of them than goals inside, but the
-- start had more.
use Rattle.std.proofs.Common.{◌≡◌, ◌≤◌, List, [], ◌∷◌, sym, ◌∙◌, ap, subst, inl, inr, arith}
use Rattle.std.specs.FinSet as set
use Rattle.cellset.specs.{Cell.neighbor, Cell.opposite, CellSet.Cells, CellSet.Has, CellSet.Lacks, declared.cell.Cell.Cell, declared.dir.Dir.Dir}
use Rattle.cellset.proofs.Members.{has_or_lacks, not_both, kept_by_insert, kept_by_remove, has_remove, lacks_where}
use Rattle.cellset.proofs.Neighbors.{neighbor_back}
use Rattle.board.specs.{Game.Level, Game.State, Game.IsFloor, Game.moved, Game.start, Game.Walks, Game.Pushes, Game.Plays, Game.Solvable, Board.IsWellFormed}
use Rattle.certificates.proofs.Counts.{common_more, len-within}
use Rattle.certificates.proofs.Sets.{has_intersection, in_intersection, put_back, removed_lacks}
use Rattle.certificates.specs.Zone.{count_in, IsClosedZone, IsRefuting}
use Rattle.closure.proofs.Moves.{AreOnFloor, moved_on_floor}

-- a box that moves within the zone doesn't change the number of boxes in it
moved_inside : (zone boxes : Cells) (from to : Cell) → Has zone from → Has zone to → Has boxes from → Lacks boxes to →
    count_in zone (moved boxes from to) ≡ count_in zone boxes
moved_inside zone boxes from to in_from in_to box free =
    let rest = set.remove boxes from in
    common_more zone rest to in_to (lacks_where rest to (λ h. not_both boxes to (has_remove boxes from to h).1 free)) ∙
    sym (common_more zone rest from in_from (removed_lacks boxes from)) ∙ ap (count_in zone) (put_back boxes from box)

-- a box that moves from outside the zone makes the boxes in it no fewer
moved_outside : (zone boxes : Cells) (from to : Cell) → Lacks zone from → count_in zone boxes ≤ count_in zone (moved boxes from to)
moved_outside zone boxes from to outside = grind (arith, len-within, has_intersection, in_intersection, kept_by_insert, kept_by_remove, not_both)

module _ (level : Level) (zone : Cells) (formed : IsWellFormed level) (closed : IsClosedZone level zone) where
  -- A box of a closed zone that is pushed stays in the zone.
  stays : (x : Cell) (d : Dir) → Has zone x → Has level.room (neighbor x (opposite d)) → IsFloor level (neighbor x d) → Has zone (neighbor x d)
  stays x d inside behind ahead = grind (arith, has_or_lacks)

  -- This holds of each state that a play reaches.
  record Keeps (s : State) : Type 0 where
    floor : AreOnFloor level s.boxes
    room : Has level.room s.player
    count : count_in zone level.boxes ≤ count_in zone s.boxes

  walk_keeps : (s : State) (d : Dir) (t : State) → Keeps s → Walks level s d t → Keeps t
  walk_keeps s d t keeps (floor, free, is) = grind arith

  push_keeps : (s : State) (d : Dir) (t : State) → Keeps s → Pushes level s d t → Keeps t
  push_keeps s d t keeps (box, floor, free, is) =
      let from = neighbor s.player d in
      let to = neighbor from d in
      let stands = formed.room s.player keeps.room in
      let back = neighbor_back s.player d stands.0.top stands.0.left in
      let no_fewer : count_in zone s.boxes ≤ count_in zone (moved s.boxes from to) = has_or_lacks zone from
      (λ inside. let same = moved_inside zone s.boxes from to inside (stays from d inside (rw back keeps.room) floor) box free in
      omega arith)
      (λ outside. moved_outside zone s.boxes from to outside) in
      let before = keeps.count in
      subst Keeps (sym is) (record {
        floor = moved_on_floor level s.boxes from to keeps.floor floor;
        room = formed.goes_on s.player d keeps.room (keeps.floor from box);
        count = omega arith;
      })

  play_keeps : (ds : List Dir) (s t : State) → Keeps s → Plays level s ds t → Keeps t
  play_keeps [] s t keeps is = subst Keeps is keeps
  play_keeps (d ∷ ds) s t keeps (u, inl walk, rest) = play_keeps ds u t (walk_keeps s d u keeps walk) rest
  play_keeps (d ∷ ds) s t keeps (u, inr push, rest) = play_keeps ds u t (push_keeps s d u keeps push) rest

-- a zone that refutes a level means that no list of directions solves it
pub refuting_unsolvable : (level : Level) (zone : Cells) → IsWellFormed level → IsRefuting level zone → Solvable level → ⊥
refuting_unsolvable level zone formed refuting (ds, t, plays, solved) =
    let keeps = play_keeps level zone formed refuting.closed ds (start level) t (record { floor = formed.boxes; room = formed.here; count = omega arith })
    plays in
    let on_goals = len-within (set.intersection zone t.boxes) (set.intersection zone level.goals)
    (λ c h. let both = has_intersection zone t.boxes c h in in_intersection zone level.goals c both.0 (solved c both.1)) in
    let count = keeps.count in
    let more = refuting.more in
    omega arith
