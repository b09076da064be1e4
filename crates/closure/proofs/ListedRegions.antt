-- The region of listed seeds of the room is what walks over the room less the boxes reach from them. A chain from such a seed stays on these
-- cells, since the room of a level that was read goes on over every floor cell beside it.
use Rattle.std.specs.Prelude.{◌↔◌}
use Rattle.cellset.specs.{Cell.neighbor, CellSet.Cells, CellSet.CellsOn, CellSet.Has, CellSet.Lacks, declared.cell.Cell.Cell}
use Rattle.reach.specs.{Region.InRegion, Region.IsFree, Region.Joined, Region.at_seed, Region.beside, Reached.Reached, Reached.WalksTo}
use Rattle.reach.proofs.Instances.{joined_is, joined_map, walked_more}
use Rattle.board.specs.{Game.Level, Board.IsWellFormed}
use Rattle.closure.{specs.Component.IsFreeOf, proofs.Components.joined_free}

module _ (level : Level) (formed : IsWellFormed level) (boxes seeds : Cells) (fair : (c : Cell) → Has seeds c → Has level.room c × Lacks boxes c) (free : CellsOn)
    (is : IsFreeOf level boxes free) where
  free_there : (c : Cell) → Has free.members c → IsFree level.shape level.walls boxes c
  free_there c has =
      let both = (is.members c).0 has in
      let floor = formed.room c both.0 in
      record { on = floor.0; no_wall = floor.1; no_bar = both.1 }

  in_free : (c : Cell) → InRegion level.shape level.walls boxes seeds c → Joined (Has free.members) (Has seeds) c
  in_free c (at_seed seed f) = at_seed seed ((is.members c).1 (fair c seed))
  in_free c (beside {c = b} d before f) =
      let chain = in_free b before in
      let inside = ((is.members b).0 (joined_free (Has free.members) (Has seeds) b chain)).0 in
      beside d chain ((is.members (neighbor b d)).1 (formed.goes_on b d inside (f.on, f.no_wall), f.no_bar))

  pub line_region : (start region : Cells) → ((c : Cell) → Has start c ↔ (Has seeds c × Has free.members c))
      → ((c : Cell) → Has region c ↔ Reached (WalksTo (Has free.members)) (Has start) c) → (c : Cell)
      → Has region c ↔ InRegion level.shape level.walls boxes seeds c
  line_region start region begins exact c =
      let Free = Has free.members in (
        λ has. joined_map Free (IsFree level.shape level.walls boxes) (Has seeds) (Has seeds) free_there (λ _ h. h) c ((joined_is Free (Has seeds) c).1
            (walked_more Free Free (Has start) (λ q. Has seeds q × Free q) (λ _ h. h) (λ q h. (begins q).0 h) c ((exact c).0 has))),
        λ inside. (exact c).1 (walked_more Free Free (λ q. Has seeds q × Free q) (Has start) (λ _ h. h) (λ q h. (begins q).1 h) c
            ((joined_is Free (Has seeds) c).0 (in_free c inside))),
      )
