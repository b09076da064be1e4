-- A hub: a cell through which boxes can be pushed to goals. It is kept as the cells from which a box can be pushed to it and the cells to
-- which a box can be pushed from it. No clause names the cell itself.
use Rattle.std.specs.Prelude.{◌≡◌, ◌<◌, IfSome, length}
use Rattle.std.specs.List.{All}
use Rattle.cellset.specs.Cell.{IsOn}
use Rattle.cellset.specs.CellSet.{Has}
use Rattle.cellset.specs.declared.cell.Cell.{Cell}
use Rattle.board.specs.Game.{Level}
use Rattle.maker.specs.Matching.{InReach}
use Rattle.maker.specs.Search.{HasEntries}
use Rattle.maker.specs.declared.zones.hub.Hub.{Hub}
use Rattle.maker.specs.declared.zones.matching.Matching.{Matching}

-- a hub is sound: its rows are on the grid of the level, each target is in the reach of each source, and the cell from which it looks for a
-- free goal is on the grid
pub record IsHub (level : Level) (hub : Hub) : Type 0 where
  pub sources_on : hub.sources.extent ≡ level.shape
  pub targets_on : hub.targets.extent ≡ level.shape
  pub linked : (b c : Cell) → Has hub.sources.members b → Has hub.targets.members c → InReach level b c
  pub from_on : IfSome hub.from (IsOn level.shape)

-- the table has an entry for each cell of the grid, and the hubs are sound
pub record IsTableWithHubs (level : Level) (matching : Matching) : Type 0 where
  pub entries : HasEntries level.shape matching.table.items
  pub hubs : All (IsHub level) matching.hubs.items
  pub oldest : matching.oldest < length matching.hubs.items
