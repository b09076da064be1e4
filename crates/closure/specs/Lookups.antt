-- What lookups rely on, and what they find.
use Rattle.std.specs.Prelude.{◌≡◌, ◌⊎◌, ℕ, IsTrue, List}
use Rattle.std.specs.List.{Contains}
use Rattle.cellset.specs.CellSet.{Has}
use Rattle.reach.specs.declared.pushes.Push.{Push}
use Rattle.board.specs.Game.{Level}
use Rattle.certificates.specs.CellLists.{cells_in}
use Rattle.certificates.specs.Pattern.{IsCovered, PushesOut, after_push}
use Rattle.closure.specs.{Around.IsOneComponent, Buckets.AreBuckets, Place.IsPlace, Component.IsFreeOf, Settling.IsSettling}
use Rattle.closure.specs.{Groups.list_of, Groups.position_at, declared.groups.Groups.Groups}
use Rattle.closure.specs.{declared.lookups.Lookups.Lookups, declared.tables.Tables.Tables, declared.task.Task.Task}

-- the buckets are those of the tables, and the scratch memory is on the grid
pub record AreLookups {S : Type 0} (tables : Tables S) (lookups : Lookups) : Type 0 where
  pub buckets : AreBuckets tables.board.now tables.groups lookups.buckets
  pub place : IsPlace tables.board.now lookups.place
  pub free : lookups.flood.free.extent ≡ tables.board.now.shape
  pub region : lookups.flood.region.extent ≡ tables.board.now.shape
  pub away : lookups.unsettled.away.extent ≡ tables.board.now.shape
  pub here : lookups.unsettled.here.extent ≡ tables.board.now.shape

-- the lookups are ready to settle the pushes of a group
pub record IsReady {S : Type 0} (task : Task S) (l : Lookups) : Type 0 where
  pub are : AreLookups task.tables.now l
  pub boxes : l.place.boxes.members ≡ cells_in task.boxes.now
  pub free : IsFreeOf task.tables.now.board.now (cells_in task.boxes.now) l.flood.free
  pub whole : IsTrue l.flood.whole → IsOneComponent (Has l.flood.free.members)
  pub settling : IsSettling task l.buckets l.unsettled

-- the pushes out of the position of a group whose results the list doesn't cover
pub record IsRest (level : Level) (groups : Groups) (g : ℕ) (left : List Push) : Type 0 where
  pub only : (push : Push) → Contains left push
      → PushesOut level (position_at level groups g) push × (IsCovered level (list_of groups) (after_push (position_at level groups g) push) → ⊥)
  pub all : (push : Push) → PushesOut level (position_at level groups g) push
      → Contains left push ⊎ IsCovered level (list_of groups) (after_push (position_at level groups g) push)
