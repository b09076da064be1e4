-- Settling the pushes out of a group: a push is settled if the list covers its result.
use Rattle.std.specs.Prelude.{◌≡◌, ◌≢◌, ◌⊎◌, ℕ, ◌+◌, ◌<◌, ◌≤◌, List, length}
use Rattle.std.specs.List.{Contains}
use Rattle.cellset.specs.{CellSet.Cells, CellSet.Has, CellSet.Lacks, declared.cell.Cell.Cell, declared.dir.Dir.Dir}
use Rattle.reach.specs.declared.pushes.Push.{Push}
use Rattle.certificates.specs.CellLists.{cells_in}
use Rattle.certificates.specs.Pattern.{IsCovered, PushesOut}
use Rattle.closure.specs.{Open.OpenPushes, Run.state_after, Trap.AreOff, Tables.AreTables, Tables.GroupCovers, GroupPushes.AreNoted}
use Rattle.closure.specs.{Place.IsPlace, Place.IsSubset, Search.IsPassed, Search.IsSearch, declared.buckets.Buckets.Buckets, declared.place.Place.Place}
use Rattle.closure.specs.{declared.task.Task.Task, declared.unsettled.Unsettled.Unsettled}
use Rattle.closure.specs.declared.unsettled.Missing.{Missing, TheVariants.Nothing, TheVariants.One, TheVariants.More}
use Rattle.closure.specs.Groups.{boxes_of, list_of, position_at}

-- a group without a box on the trap, with its boxes
pub record IsTask {S : Type 0} (task : Task S) : Type 0 where
  pub tables : AreTables task.tables.now
  pub noted : AreNoted task.tables.now.board.now task.tables.now.groups task.covered.now
  pub group : task.group < length task.tables.now.groups.spans.items
  pub boxes : task.boxes.now ≡ boxes_of task.tables.now.groups task.group
  pub off : AreOff task.tables.now.trap.members task.boxes.now

-- a place with the boxes of the group
pub record IsPlaceOf {S : Type 0} (task : Task S) (p : Place) : Type 0 where
  pub is : IsTask task
  pub place : IsPlace task.tables.now.board.now p
  pub boxes : p.boxes.members ≡ cells_in task.boxes.now

-- a push out of the group
abbrev pub IsPushOut : {S : Type 0} → Task S → Push → Type 0
IsPushOut task = PushesOut task.tables.now.board.now (position_at task.tables.now.board.now task.tables.now.groups task.group)

-- the list covers the result of the push
abbrev pub IsSettled : {S : Type 0} → Task S → Push → Type 0
IsSettled task push = IsCovered task.tables.now.board.now (list_of task.tables.now.groups) (state_after (cells_in task.boxes.now) push)

-- each push is on the board, and goes out of the group to a cell off the trap
pub record AreOpen {S : Type 0} (task : Task S) (left : OpenPushes) : Type 0 where
  pub extent : left.extent ≡ task.tables.now.board.now.shape
  pub out : (push : Push) → Contains left.pushes push → IsPushOut task push × Lacks task.tables.now.trap.members push.to

-- the pushes that were taken out are settled
pub record AreTaken {S : Type 0} (task : Task S) (old new : OpenPushes) : Type 0 where
  pub extent : new.extent ≡ old.extent
  pub kept : (push : Push) → Contains old.pushes push → Contains new.pushes push ⊎ IsSettled task push
  pub only : (push : Push) → Contains new.pushes push → Contains old.pushes push
  pub fewer : length new.pushes ≤ length old.pushes

-- the group covers the result of none of the pushes
abbrev pub CoversNone : {S : Type 0} → Task S → ℕ → List Push → Type 0
CoversNone task g pushes =
    (push : Push) → Contains pushes push → GroupCovers task.tables.now.board.now task.tables.now.groups g (state_after (cells_in task.boxes.now) push) → ⊥

-- the group covers the result of none of the pushes in the direction
abbrev pub CoversNoneToward : {S : Type 0} → Task S → ℕ → Dir → List Push → Type 0
CoversNoneToward task g dir pushes =
    (push : Push) → Contains pushes push → push.dir ≡ dir → GroupCovers task.tables.now.board.now task.tables.now.groups g (state_after (cells_in task.boxes.now) push) → ⊥

-- the pushes of a group are being settled; each group that the search has passed is inside, or covers the result of no push that isn't settled
pub record IsSettling {S : Type 0} (task : Task S) (buckets : Buckets) (u : Unsettled) : Type 0 where
  pub away : AreOpen task u.away
  pub here : AreOpen task u.here
  pub search : IsSearch task.tables.now.board.now.shape task.tables.now.groups buckets u.search
  pub boxes_searched : (c : Cell) → Has (cells_in task.boxes.now) c → Has (cells_in u.search.cells.items) c
  pub away_searched : (push : Push) → Contains u.away.pushes push → Has (cells_in u.search.cells.items) push.to
  pub here_searched : (push : Push) → Contains u.here.pushes push → Has (cells_in u.search.cells.items) push.to
  pub inside : (g : ℕ) → Contains u.inside.items g → IsSubset task.tables.now.groups (cells_in task.boxes.now) g
  pub asked : (g : ℕ) → g < length task.tables.now.groups.spans.items → IsPassed task.tables.now.board.now.shape buckets u.search g
      → Contains u.inside.items g ⊎ (CoversNone task g u.away.pushes × CoversNone task g u.here.pushes)

-- Groups were asked: the pushes that were taken out are settled, and the search stayed.
pub record HasAsked {S : Type 0} (task : Task S) (old new : Unsettled) : Type 0 where
  pub away : AreTaken task old.away new.away
  pub here : AreTaken task old.here new.here
  pub search : new.search ≡ old.search
  pub inside : new.inside ≡ old.inside

-- Pushes were settled, and nothing was added: what is unsettled was so before, and what isn't any more is settled.
pub record IsOnward {S : Type 0} (task : Task S) (buckets : Buckets) (old new : Unsettled) : Type 0 where
  pub settling : IsSettling task buckets new
  pub away : AreTaken task old.away new.away
  pub here : AreTaken task old.here new.here

-- the pushes by players in the component went from those away to those here
pub record IsParted (Part : Cell → Type 0) (old new : Unsettled) : Type 0 where
  pub kept : (push : Push) → Contains old.away.pushes push → Contains new.away.pushes push ⊎ Contains new.here.pushes push
  pub away : (push : Push) → Contains new.away.pushes push → Contains old.away.pushes push × (Part push.player → ⊥)
  pub here : (push : Push) → Contains new.here.pushes push → Contains old.away.pushes push × Part push.player
  pub sum : length new.away.pushes + length new.here.pushes ≤ length old.away.pushes
  pub extents : (new.away.extent ≡ old.away.extent) × (new.here.extent ≡ old.here.extent)
  pub search : new.search ≡ old.search
  pub inside : new.inside ≡ old.inside

-- which boxes of a list aren't among these
abbrev pub Misses : List Cell → Cells → Missing → Type 0
Misses kept boxes Nothing = (c : Cell) → Has (cells_in kept) c → Has boxes c
Misses kept boxes (One to) = Has (cells_in kept) to × Lacks boxes to × ((c : Cell) → Has (cells_in kept) c → Has boxes c ⊎ (c ≡ to))
Misses kept boxes More = (c d : Cell) × Has (cells_in kept) c × Has (cells_in kept) d × (c ≢ d) × Lacks boxes c × Lacks boxes d
