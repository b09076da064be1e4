-- Steps of the game.
use Rattle.std.proofs.Common.{refl, inr}
use Rattle.cellset.specs.Cell.{neighbor}
use Rattle.cellset.specs.CellSet.{Has, Lacks}
use Rattle.cellset.specs.declared.dir.Dir.{Dir}
use Rattle.board.specs.Game.{Level, State, IsFloor, moved}
use Rattle.play.specs.State.{IsWallAhead}

-- if a push is possible, there is no wall ahead
pub push_no_wall : (level : Level) (s : State) (d : Dir)
    → Has s.boxes (neighbor s.player d) → IsFloor level (neighbor (neighbor s.player d) d) → Lacks s.boxes (neighbor (neighbor s.player d) d)
    → IsWallAhead level s d → ⊥
push_no_wall level s d box floor free wall =
    let ahead = neighbor s.player d in
    let beyond = neighbor ahead d in
    wall.stuck (record { player = ahead; boxes = moved s.boxes ahead beyond }) (inr (box, floor, free, refl))
