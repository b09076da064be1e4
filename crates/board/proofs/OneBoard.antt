-- The rows of a level have one board.
-- The rows fix the shape and the player. A set is known by its members, and they are those that the rows show. The rooms have the
-- same members: since the walls, the shape and the player are the same, so are the chains that join a cell to the player.
use Rattle.std.proofs.Common.{◌≡◌, ℕ, List, refl, sym, ◌∙◌, ap}
use Rattle.cellset.specs.CellSet.{Has}
use Rattle.cellset.specs.declared.cell.Cell.{Cell}
use Rattle.cellset.proofs.Members.{same_cells, same_members}
use Rattle.board.specs.Game.{Level, IsFloor}
use Rattle.board.specs.Legal.{ArePartsOf}
use Rattle.reach.proofs.Instances.{joined_map}
use Rattle.board.specs.Board.{level_of}

module _ (rows : List (List ℕ)) where
  players_same : (a b : Level) → ArePartsOf rows a → ArePartsOf rows b → a.player ≡ b.player
  players_same a b p q = (q.drawn.player a.player).0 ((p.drawn.player a.player).1 refl)

  walls_same : (a b : Level) → ArePartsOf rows a → ArePartsOf rows b → a.walls ≡ b.walls
  walls_same a b p q = same_cells a.walls b.walls (λ c. p.drawn.walls c ∙ sym (q.drawn.walls c))

  floor_kept : (a b : Level) → ArePartsOf rows a → ArePartsOf rows b → (c : Cell) → IsFloor a c → IsFloor b c
  floor_kept a b p q c floor = (
    rw (p.drawn.shape ∙ sym q.drawn.shape) at floor.0,
    rw (walls_same a b p q) at floor.1,
  )

  room_kept : (a b : Level) → ArePartsOf rows a → ArePartsOf rows b → (c : Cell) → Has a.room c → Has b.room c
  room_kept a b p q c has = (q.room c).1 (joined_map (IsFloor a) (IsFloor b) (λ seed. seed ≡ a.player) (λ seed. seed ≡ b.player)
      (floor_kept a b p q) (λ seed here. here ∙ players_same a b p q) c ((p.room c).0 has))

  pub one_board : (a b : Level) → ArePartsOf rows a → ArePartsOf rows b → a ≡ b
  one_board a b p q =
      ap (λ x. level_of x a.walls a.goals a.boxes a.player a.room) (p.drawn.shape ∙ sym q.drawn.shape)
      ∙ ap (λ x. level_of b.shape x a.goals a.boxes a.player a.room) (walls_same a b p q)
      ∙ ap (λ x. level_of b.shape b.walls x a.boxes a.player a.room) (same_cells a.goals b.goals (λ c. p.drawn.goals c ∙ sym (q.drawn.goals c)))
      ∙ ap (λ x. level_of b.shape b.walls b.goals x a.player a.room) (same_cells a.boxes b.boxes (λ c. p.drawn.boxes c ∙ sym (q.drawn.boxes c)))
      ∙ ap (λ x. level_of b.shape b.walls b.goals b.boxes x a.room) (players_same a b p q)
      ∙ ap (λ x. level_of b.shape b.walls b.goals b.boxes b.player x) (same_members a.room b.room (room_kept a b p q) (room_kept b a q p))
