-- Which pushes a pattern settles, of the boxes of a state, by a player of the room who stands beside them. A pattern that covers a player
-- covers each player of the same component of the room less the boxes, because its boxes are among them (`alike`). If it lacks the pushed box, it
-- covers the result: its boxes are still there, and the player steps from its region to a cell where it has no box (`loose_push`). If all its
-- boxes are there and it covers the result, it lacks that box and covers the player, who can step back (`back_inside`). So the players of a
-- component decide once for all pushes from there. If the list covers the pushes of a pattern that covers the player, it covers the result:
-- either the pattern lacks the box, or the push is one out of the pattern, and the boxes after that one are among the boxes after this
-- (`subsumed_push`). A pattern that has a box on the cell ahead, and whose other boxes are there, covers the result if its region has the
-- cell that the box leaves (`ahead_decides`).
use Rattle.std.proofs.Common.{◌≡◌, List, arith}
use Rattle.std.{specs.Prelude.◌↔◌, specs.Prelude.◌⊎◌, specs.List.Contains}
use Rattle.cellset.specs.{Cell.neighbor, Cell.opposite, CellSet.Cells, CellSet.CellsOn, CellSet.Has, CellSet.Lacks, declared.cell.Cell.Cell, declared.dir.Dir.Dir}
use Rattle.cellset.proofs.{Members.has_insert, Members.has_or_lacks, Members.has_remove, Members.inserted, Members.kept_by_insert, Members.kept_by_remove, Members.not_both, Neighbors.neighbor_back, Truth.either}
use Rattle.reach.specs.{Region.IsFree, Region.Joined, Region.at_seed, Region.beside, declared.pushes.Push.Push}
use Rattle.board.specs.{Game.IsFloor, Game.Level, Game.State, Board.IsWellFormed}
use Rattle.certificates.specs.Pattern.{Pattern, Covers, InPatternRegion, IsCovered, PushesOut, CoversPushesOf}
use Rattle.closure.specs.{Component.AreInComponent, Component.IsFreeOf, Place.AreCoveredAlike, Run.state_after}
use Rattle.certificates.proofs.RegionCells.{region_lacks}
use Rattle.closure.proofs.{Moves.IsWithin, Moves.lacks_within, Moves.moved_beside, Moves.moved_within, Components.joined_back}

-- A push of one of the boxes, which are on floor, to a cell of the floor without one.
pub record IsMove (level : Level) (boxes : Cells) (push : Push) : Type 0 where
  pub next_cell : push.from ≡ neighbor push.player push.dir
  pub floor : IsFloor level push.from
  pub box : Has boxes push.from
  pub cell_behind : push.to ≡ neighbor push.from push.dir
  pub free : IsFree level.shape level.walls boxes push.to

-- The player of the push is in the room, and not on a box.
pub record IsPushIn (level : Level) (boxes : Cells) (push : Push) : Type 0 where
  pub room : Has level.room push.player
  pub outside : Lacks boxes push.player
  pub move : IsMove level boxes push

-- A push out of a pattern is one of its boxes.
pub push_in : (level : Level) (own : Pattern) → ((c : Cell) → Has own.boxes c → IsFloor level c) → ((c : Cell) → InPatternRegion level own c → Has level.room c)
    → (push : Push) → PushesOut level own push → IsPushIn level own.boxes push
push_in level own floor room push out = search (region_lacks)

-- A cell of a region is free.
pub region_free : (level : Level) (pattern : Pattern) (c : Cell) → InPatternRegion level pattern c → IsFree level.shape level.walls pattern.boxes c
region_free level pattern c (at_seed seed free) = free
region_free level pattern c (beside d before free) = free

-- A step between free cells of a grid leads back, so a region that has the one cell has the other.
step_decides : (level : Level) (pattern : Pattern) (c : Cell) (d : Dir) → IsFree level.shape level.walls pattern.boxes c →
    IsFree level.shape level.walls pattern.boxes (neighbor c d) → InPatternRegion level pattern c ↔ InPatternRegion level pattern (neighbor c d)
step_decides level pattern c d here there =
    let back : neighbor (neighbor c d) (opposite d) ≡ c = neighbor_back c d here.on.top here.on.left in (
      λ inside. beside d inside there,
      λ inside. rw back at (beside (opposite d) inside (rw back here)),
    )

-- ---- players of one component
module _ (level : Level) (formed : IsWellFormed level) (boxes : Cells) (free : CellsOn) (is : IsFreeOf level boxes free) where
  pub alike : (p q : Cell) → Joined (Has free.members) (λ seed. seed ≡ p) q → AreCoveredAlike level boxes p q
  alike p q (at_seed same open_cell) pattern covers = rw same covers
  alike p q (beside {c = b} d before open_cell) pattern covers =
      let both = (is.members q).0 open_cell in
      let floor = formed.room q both.0 in
      record {
        boxes = covers.boxes;
        player = beside d (alike p b before pattern covers).player
            (record { on = floor.0; no_wall = floor.1; no_bar = lacks_within pattern.boxes boxes q covers.boxes both.1 });
      }

  pub alike_back : (p q : Cell) → Joined (Has free.members) (λ seed. seed ≡ p) q → AreCoveredAlike level boxes q p
  alike_back p q chain = alike q p (joined_back (Has free.members) level.shape (λ c has. (formed.room c ((is.members c).0 has).0).0) p q chain)

  module _ (player : Cell) (outside : Lacks boxes player) (Part : Cell → Type 0) (component : (c : Cell) → Part c → Joined (Has free.members) (λ seed. seed ≡ player) c) where
    -- Pushes by players in a component.
    pub all_in_component : (pushes : List Push) → ((push : Push) → Contains pushes push → Part push.player) → AreInComponent level boxes player pushes
    all_in_component pushes part = search (alike, alike_back)

module _ (level : Level) (boxes : Cells) (push : Push) (is : IsMove level boxes push) where
  -- ---- the player before the push
  pub loose_push : (pattern : Pattern) → Lacks pattern.boxes push.from → Covers level pattern (record { player = push.player; boxes = boxes })
      → Covers level pattern (state_after boxes push)
  loose_push pattern lacks covers =
      let free : IsFree level.shape level.walls pattern.boxes push.from = record { on = is.floor.0; no_wall = is.floor.1; no_bar = lacks } in
      record {
        boxes = moved_beside pattern.boxes boxes push.from push.to lacks covers.boxes;
        player = rw is.next_cell (beside push.dir covers.player (rw is.next_cell at free));
      }

  pub back_inside : IsWellFormed level → IsPushIn level boxes push → (pattern : Pattern) → IsWithin pattern.boxes boxes → Covers level pattern (state_after boxes push)
      → InPatternRegion level pattern push.player
  back_inside formed by pattern within covers =
      let floor = formed.room push.player by.room in
      let here : IsFree level.shape level.walls pattern.boxes push.player = record {
        on = floor.0;
        no_wall = floor.1;
        no_bar = lacks_within pattern.boxes boxes push.player within by.outside;
      } in
      let there = region_free level pattern push.from covers.player in
      (step_decides level pattern push.player push.dir here (rw is.next_cell at there)).1 (rw is.next_cell at covers.player)

  -- A pattern covers the result only if it lacks the pushed box.
  pub lacks_pushed : (pattern : Pattern) → Covers level pattern (state_after boxes push) → Lacks pattern.boxes push.from
  lacks_pushed pattern covers = region_lacks level pattern push.from covers.player

  -- If the list covers the pushes of a pattern that covers the player, it covers the result. That pattern needn't be in the list.
  pub subsumed_push : (patterns : List Pattern) (pattern : Pattern) → ((s : State) → Covers level pattern s → IsCovered level patterns s)
      → CoversPushesOf level patterns pattern → Covers level pattern (record { player = push.player; boxes = boxes })
      → IsCovered level patterns (state_after boxes push)
  subsumed_push patterns pattern listed noted covers = has_or_lacks pattern.boxes push.from
      (λ has.
      let after = noted push (record {
        standing = covers.player;
        next_cell = is.next_cell;
        box = has;
        cell_behind = is.cell_behind;
        free = record { on = is.free.on; no_wall = is.free.no_wall; no_bar = lacks_within pattern.boxes boxes push.to covers.boxes is.free.no_bar };
      }) in (
        after.0,
        after.1,
        record {
          boxes = λ c h. moved_within pattern.boxes boxes push.from push.to covers.boxes c (after.2.boxes c h);
          player = after.2.player;
        },
      ))
      (λ lacks. listed (state_after boxes push) (loose_push pattern lacks covers))

  -- ---- a box on the cell ahead
  pub steps_back : neighbor push.to (opposite push.dir) ≡ push.from
  steps_back = grind (arith, neighbor_back)

  pub ahead_decides : (pattern : Pattern) → ((c : Cell) → Has pattern.boxes c → Has boxes c ⊎ (c ≡ push.to)) → Lacks pattern.boxes push.from
      → InPatternRegion level pattern push.from → Covers level pattern (state_after boxes push)
  ahead_decides pattern within lacks inside = grind (arith, either, kept_by_insert, kept_by_remove, not_both, inserted)

  -- A pattern that covers the result has no box but those that are there and the cell ahead.
  pub after_within : (pattern : Pattern) → Covers level pattern (state_after boxes push) → (c : Cell) → Has pattern.boxes c → Has boxes c ⊎ (c ≡ push.to)
  after_within pattern covers c has = grind (arith, either, has_insert, has_remove)
