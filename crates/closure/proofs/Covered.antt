-- Why a closed list means that a level is not solvable. Keep only the boxes of a pattern that covers the state: a
-- walk then stays in the region, a push of another box is a walk too, and a push of one of its boxes is a push
-- out, whose result the list covers. So the list covers every state that a play reaches. A state that is covered
-- has a box off the goals, so none of these is solved.
use Rattle.std.proofs.Common.{List, [], ◌∷◌, sym, subst, inl, inr, refl}
use Rattle.cellset.specs.{Cell.neighbor, declared.dir.Dir.Dir}
use Rattle.cellset.proofs.Members.{not_both}
use Rattle.reach.specs.{Region.beside, Pushes.push_by}
use Rattle.board.specs.Game.{Level, State, start, Steps, Walks, Pushes, Plays, IsSolved, Solvable}
use Rattle.board.specs.Board.{IsWellFormed}
use Rattle.certificates.specs.Pattern.{Pattern, IsCovered}
use Rattle.certificates.specs.Closed.{Closed}
use Rattle.closure.proofs.{Moves.AreOnFloor, Moves.lacks_within, Moves.moved_on_floor, Settled.subsumed_push}

module _ (level : Level) (patterns : List Pattern) (closed : Closed level patterns) where
  walk_covered : (s : State) (d : Dir) (t : State) → IsCovered level patterns s → Walks level s d t → IsCovered level patterns t
  walk_covered s d t (pattern, listed, covers) (floor, free, is) =
      subst (IsCovered level patterns) (sym is) (
        pattern,
        listed,
        record {
          boxes = covers.boxes;
          player = beside d covers.player (record {
            on = floor.0;
            no_wall = floor.1;
            no_bar = lacks_within pattern.boxes s.boxes (neighbor s.player d) covers.boxes free;
          });
        },
      )

  push_covered : (s : State) (d : Dir) (t : State) → AreOnFloor level s.boxes → IsCovered level patterns s → Pushes level s d t → IsCovered level patterns t
  push_covered s d t on_floor (pattern, listed, covers) (box, floor, free, is) =
      subst (IsCovered level patterns) (sym is) (subsumed_push level s.boxes (push_by s.player d)
      (record {
        next_cell = refl;
        floor = on_floor (neighbor s.player d) box;
        box = box;
        cell_behind = refl;
        free = record { on = floor.0; no_wall = floor.1; no_bar = free };
      })
      patterns pattern (λ u held. (pattern, listed, held)) (closed.pushes pattern listed) covers)

  step_on_floor : (s : State) (d : Dir) (t : State) → AreOnFloor level s.boxes → Steps level s d t → AreOnFloor level t.boxes
  step_on_floor s d t on_floor (inl walk) = subst (λ u. AreOnFloor level u.boxes) (sym walk.2) on_floor
  step_on_floor s d t on_floor (inr push) = subst (λ u. AreOnFloor level u.boxes) (sym push.3) (moved_on_floor level s.boxes _ _ on_floor push.1)

  step_covered : (s : State) (d : Dir) (t : State) → AreOnFloor level s.boxes → IsCovered level patterns s → Steps level s d t → IsCovered level patterns t
  step_covered s d t on_floor covered (inl walk) = walk_covered s d t covered walk
  step_covered s d t on_floor covered (inr push) = push_covered s d t on_floor covered push

  play_covered : (ds : List Dir) (s t : State) → AreOnFloor level s.boxes → IsCovered level patterns s → Plays level s ds t → IsCovered level patterns t
  play_covered [] s t on_floor covered is = subst (IsCovered level patterns) is covered
  play_covered (d ∷ ds) s t on_floor covered (u, step, rest) =
      play_covered ds u t (step_on_floor s d u on_floor step) (step_covered s d u on_floor covered step) rest

  covered_unsolved : (s : State) → IsCovered level patterns s → IsSolved level s → ⊥
  covered_unsolved s (pattern, listed, covers) solved =
      let off = (closed.lawful pattern listed).goals in
      not_both level.goals off.0 (solved off.0 (covers.boxes off.0 off.1)) off.2

-- a closed list means that no list of directions solves the level
pub closed_unsolvable : (level : Level) (patterns : List Pattern) → IsWellFormed level → Closed level patterns → Solvable level → ⊥
closed_unsolvable level patterns formed closed (ds, t, plays, solved) =
    covered_unsolved level patterns closed t (play_covered level patterns closed ds (start level) t formed.boxes closed.start plays) solved
