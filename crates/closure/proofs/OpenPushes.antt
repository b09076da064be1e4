-- Which open pushes a group settles. One whose boxes are there but one settles those to the cell of that box, if its region has the cell that the
-- pushed box leaves and it lacks that box; and it covers the result of no other open push. One whose boxes are all there settles
-- the pushes from the component of the boxes that it lacks, if its region has the player, and all of them if its own pushes are covered; it covers
-- the result of no push from the component if its region lacks the player. A group with a box on the trap covers the result of no open push.
use Rattle.std.proofs.Common.{◌≡◌, ℕ, ◌<◌, List, length, refl, sym, ◌∙◌, ap, inl, inr}
use Rattle.std.specs.List.{Contains}
use Rattle.cellset.specs.declared.dir.Dir.{Dir, TheVariants.L, TheVariants.U, TheVariants.R, TheVariants.D}
use Rattle.cellset.specs.{Cell.IsOn, Cell.neighbor, Cell.opposite, CellSet.Cells, CellSet.Has, CellSet.Lacks, declared.cell.Cell.Cell}
use Rattle.cellset.proofs.{Members.not_both, Neighbors.neighbor_forth, Truth.either}
use Rattle.reach.specs.declared.pushes.Push.{Push}
use Rattle.board.specs.Game.{Level}
use Rattle.certificates.specs.CellLists.{cells_in}
use Rattle.certificates.specs.Pattern.{Pattern, InPatternRegion, CoversPushesOf}
use Rattle.closure.specs.{GroupPushes.IsPushOf, Open.IsStep, Open.IsThat, Run.state_after, Trap.AreOff, Tables.GroupCovers, Place.IsSubset, Component.AreInComponent}
use Rattle.closure.specs.{declared.groups.Groups.Groups, declared.task.Task.Task, Groups.boxes_of, Groups.list_of, Groups.position_at}
use Rattle.closure.specs.Settling.{CoversNoneToward, IsPushOut, IsSettled, IsTask, Misses}
use Rattle.closure.specs.declared.unsettled.Missing.TheVariants.{One, More}
use Rattle.closure.proofs.Grouped.{box_floor, covered_of_group, group_in_room}
use Rattle.closure.proofs.{GroupPushes.leaves_room, GroupPushes.player_behind, GroupPushes.toward_trap, Traps.off_after}
use Rattle.closure.proofs.Settled.{IsPushIn, push_in, ahead_decides, after_within, back_inside, loose_push, steps_back, subsumed_push}

pub each_dir : (P : Type 0) (d : Dir) → (d ≡ L → P) → (d ≡ U → P) → (d ≡ R → P) → (d ≡ D → P) → P
each_dir P L l u r d = l refl
each_dir P U l u r d = u refl
each_dir P R l u r d = r refl
each_dir P D l u r d = d refl

module _ {S : Type 0} (task : Task S) (is : IsTask task) where
  abbrev level : Level
  level = task.tables.now.board.now

  abbrev groups : Groups
  groups = task.tables.now.groups

  abbrev boxes : Cells
  boxes = cells_in task.boxes.now

  abbrev at : ℕ → Pattern
  at g = position_at level groups g

  pub open_in : (push : Push) → IsPushOut task push → IsPushIn level boxes push
  open_in push out = rw is.boxes (push_in level (at task.group) (box_floor level groups is.tables.lawful is.tables.grouped task.group is.group)
      (group_in_room level is.tables.formed groups is.tables.grouped is.tables.lawful task.group) push out)

  -- The cell that the box of an open push leaves is in the room.
  pub open_from : (push : Push) → IsPushOut task push → Has level.room push.from
  open_from push out = leaves_room task.tables.now is.tables task.group is.group push out

  pub open_on : (push : Push) → IsPushOut task push → IsOn level.shape push.from
  open_on push out = (is.tables.formed.room push.from (open_from push out)).0

  pub open_step : (push : Push) → IsPushOut task push → IsStep push
  open_step push out = record { player = player_behind level (at task.group) push.from push.dir push out refl refl; to = out.cell_behind }

  -- A push in a direction to a cell comes from the cell beside that.
  pub ahead_from : (push : Push) (out : IsPushOut task push) (to : Cell) (dir : Dir) → push.to ≡ to → push.dir ≡ dir → push.from ≡ neighbor to (opposite dir)
  ahead_from push out to dir ahead toward = rw (← toward, ← ahead) (sym (steps_back level boxes push (open_in push out).move))

  -- It goes to that cell if it comes from there.
  pub ahead_to : (push : Push) (out : IsPushOut task push) (to : Cell) (dir : Dir) → IsOn level.shape to → IsThat (neighbor to (opposite dir)) dir push → push.to ≡ to
  ahead_to push out to dir on that =
      out.cell_behind ∙ (ap (λ c. neighbor c push.dir) that.cell ∙ (ap (λ d. neighbor (neighbor to (opposite dir)) d) that.way ∙ neighbor_forth to dir on.top on.left))

  -- The pushes of a box in a direction are settled if one of them is one to the trap.
  pub toward_trap_settled : (cell : Cell) (dir : Dir) (one push : Push) → IsPushOf level (at task.group) cell dir one → Has task.tables.now.trap.members one.to
      → IsPushOut task push → push.from ≡ cell → push.dir ≡ dir → IsSettled task push
  toward_trap_settled cell dir one push of has out from toward =
      rw is.boxes (toward_trap task.tables.now is.tables task.group is.group cell dir one of has push out from toward)

  -- ---- which pushes a group settles
  pub settled_by : (g : ℕ) (push : Push) → GroupCovers level groups g (state_after boxes push) → IsSettled task push
  settled_by g push covers = search (covered_of_group)

  -- A group that covers the result of an open push is off the trap.
  pub covering_off : (push : Push) → Lacks task.tables.now.trap.members push.to → (g : ℕ) → GroupCovers level groups g (state_after boxes push)
      → AreOff task.tables.now.trap.members (boxes_of groups g)
  covering_off push off g covers c has = off_after task.tables.now.trap.members task.boxes.now push.from push.to is.off off c (covers.1.boxes c has)

  -- ---- a group one of whose boxes isn't there
  module _ (g : ℕ) (lt : g < length groups.spans.items) (push : Push) (within : IsPushIn level boxes push) where
    module _ (to : Cell) (misses : Misses (boxes_of groups g) boxes (One to)) where
      -- It covers the result of a push to the one that isn't there if its region has the cell that the box leaves.
      pub ahead_covers : Lacks (cells_in (boxes_of groups g)) push.from → InPatternRegion level (at g) push.from → push.to ≡ to
          → GroupCovers level groups g (state_after boxes push)
      ahead_covers lacks inside ahead =
          (lt, ahead_decides level boxes push within.move (at g) (λ c has. either (misses.2 c has) inl (λ e. inr (e ∙ sym ahead))) lacks inside)

      -- Of other pushes it covers no result.
      pub ahead_is : GroupCovers level groups g (state_after boxes push) → push.to ≡ to
      ahead_is covers = either (after_within level boxes push within.move (at g) covers.1 to misses.0)
          (λ there. absurd (not_both boxes to there misses.1)) sym

    -- A group two of whose boxes aren't there covers nothing.
    pub more_none : Misses (boxes_of groups g) boxes More → GroupCovers level groups g (state_after boxes push) → ⊥
    more_none misses covers =
        let ahead = λ (c : Cell) (has : Has (cells_in (boxes_of groups g)) c) (lacks : Lacks boxes c). either
        (after_within level boxes push within.move (at g) covers.1 c has) (λ there. absurd (not_both boxes c there lacks)) (λ e. e) in
        misses.4 (ahead misses.0 misses.2 misses.5 ∙ sym (ahead misses.1 misses.3 misses.6))

  -- ---- a group whose boxes are all there
  module _ (g : ℕ) (subset : IsSubset groups boxes g) (player : Cell) (pushes : List Push) (component : AreInComponent level boxes player pushes) (push : Push)
      (has : Contains pushes push) (within : IsPushIn level boxes push) where
    pub inside_settles : InPatternRegion level (at g) player → Lacks (cells_in (boxes_of groups g)) push.from → IsSettled task push
    inside_settles inside lacks =
        settled_by g push (subset.within, loose_push level boxes push within.move (at g) lacks (component.onward push has (at g) (record { boxes = subset.has; player = inside })))

    pub inside_player : GroupCovers level groups g (state_after boxes push) → InPatternRegion level (at g) player
    inside_player covers =
        let there = back_inside level boxes push within.move is.tables.formed within (at g) subset.has covers.1 in
        (component.back push has (at g) (record { boxes = subset.has; player = there })).player

    pub noted_settles : CoversPushesOf level (list_of groups) (at g) → InPatternRegion level (at g) player → IsSettled task push
    noted_settles noted inside =
        subsumed_push level boxes push within.move (list_of groups) (at g) (λ s covers. covered_of_group level groups is.tables.grouped s g covers) noted
        (component.onward push has (at g) (record { boxes = subset.has; player = inside }))

-- A group one of whose boxes isn't there covers the result of no push in a direction, if it doesn't of one from the cell beside that box.
pub none_toward : {S : Type 0} (task : Task S) (is : IsTask task) (g : ℕ) (lt : g < length task.tables.now.groups.spans.items) (to : Cell)
    (misses : Misses (boxes_of task.tables.now.groups g) (cells_in task.boxes.now) (One to)) (dir : Dir) (pushes : List Push)
    → ((push : Push) → Contains pushes push → IsPushOut task push)
    → ((push : Push) → Contains pushes push → IsThat (neighbor to (opposite dir)) dir push
    → GroupCovers task.tables.now.board.now task.tables.now.groups g (state_after (cells_in task.boxes.now) push) → ⊥)
    → CoversNoneToward task g dir pushes
none_toward task is g lt to misses dir pushes out never push has toward covers =
    let ahead = ahead_is task is g lt push (open_in task is push (out push has)) to misses covers in
    never push has (record { cell = ahead_from task is push (out push has) to dir ahead toward; way = toward }) covers
