-- Live cells are those that pulls within the room reach from the goals.
-- Every floor cell beside a cell of the room is in the room. So in a relaxed push of a box on floor, the cell behind the
-- box, its own cell and the cell ahead of it are all in the room.
use Rattle.std.proofs.Common.{refl, subst}
use Rattle.std.specs.Prelude.{◌⊎◌, ◌↔◌}
use Rattle.cellset.specs.Cell.{IsOn, neighbor, opposite}
use Rattle.cellset.specs.CellSet.{Cells, Has}
use Rattle.cellset.specs.declared.cell.Cell.{Cell}
use Rattle.cellset.specs.declared.dir.Dir.{Dir}
use Rattle.cellset.proofs.Neighbors.{neighbor_forth}
use Rattle.cellset.proofs.Truth.{either}
use Rattle.reach.specs.Reached.{Reached, at_seed, by_step, PullsTo}
use Rattle.board.specs.Game.{Level, IsFloor}
use Rattle.board.specs.Board.{IsWellFormed}
use Rattle.maker.specs.Dead.{IsLive, at_goal, pushed, IsDead}

module _ (level : Level) (formed : IsWellFormed level) where
  pulled_live : (c : Cell) → Reached (PullsTo (Has level.room)) (Has level.goals) c → IsLive level c
  pulled_live c (at_seed h) = at_goal h
  pulled_live c (by_step b before p) =
      pushed p.dir (record { player = p.behind; floor = rw p.next at (formed.room b p.ahead) }) (rw p.next at (pulled_live b before))

  -- The floor beside the room is in it.
  pub beside_room : (c : Cell) (d : Dir) → IsFloor level c → Has level.room (neighbor c (opposite d)) → Has level.room c
  beside_room c d floor behind =
      let on = floor.0 in
      let back = neighbor_forth c d on.top on.left in
      subst (Has level.room) back (formed.goes_on (neighbor c (opposite d)) d behind (rw back floor))

  live_pulled : (c : Cell) → IsFloor level c → IsLive level c → Reached (PullsTo (Has level.room)) (Has level.goals) c
  live_pulled c floor (at_goal h) = at_seed h
  live_pulled c floor (pushed d push ahead) =
      by_step (neighbor c d) (live_pulled (neighbor c d) push.floor ahead)
      (record { dir = d; next = refl; behind = push.player; ahead = formed.goes_on c d (beside_room c d floor push.player) push.floor })

  dead_floor : (c : Cell) → IsDead level c → IsFloor level c
  dead_floor c (stands, _) = either stands (formed.room c) (formed.boxes c)

  pub dead_on : (c : Cell) → IsDead level c → IsOn level.shape c
  dead_on c dead = (dead_floor c dead).0

  -- The dead squares are the room and the boxes without the live cells.
  pub dead_is : (live : Cells) → ((c : Cell) → Has live c ↔ Reached (PullsTo (Has level.room)) (Has level.goals) c)
      → (c : Cell) → ((Has level.room c ⊎ Has level.boxes c) × (Has live c → ⊥)) ↔ IsDead level c
  dead_is live exact c = (
    (λ (stands, gone). (stands, λ alive. gone ((exact c).1 (live_pulled c (either stands (formed.room c) (formed.boxes c)) alive)))),
    (λ (stands, dead). (stands, λ there. dead (pulled_live c ((exact c).0 there)))),
  )
