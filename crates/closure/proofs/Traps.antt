-- Why a list covers each state with a box on its trap, and the results of the pushes of a pattern with such a box. The list has the single of
-- each cell of the trap, which covers a state with that box if the player is in the room. The player of a push out of a pattern is in the
-- room, and each floor cell beside the room is in the room, so the box's old cell and its new one are too. So a box that is pushed from the
-- trap comes to a cell of the trap, since no push within the room leads out of it, and any other push leaves the box on the trap there.
use Rattle.std.proofs.Common.{◌≡◌, ◌≢◌, List, sym, ◌∙◌, ap, subst}
use Rattle.std.specs.FinSet as set
use Rattle.cellset.specs.{Cell.neighbor, Cell.opposite, CellSet.Cells, CellSet.CellsOn, CellSet.Has, CellSet.Lacks, CellSet.only, declared.cell.Cell.Cell}
use Rattle.cellset.proofs.Members.{has_empty, has_insert, has_only, has_remove, inserted, kept_by_insert, kept_by_remove, lacks_only, lacks_where, same_or_other}
use Rattle.cellset.proofs.{Neighbors.neighbor_back, Truth.either}
use Rattle.reach.specs.declared.pushes.Push.{Push}
use Rattle.board.specs.{Game.Level, Game.State, Game.IsFloor, Game.moved, Game.start, Board.IsWellFormed}
use Rattle.certificates.specs.CellLists.{cells_in}
use Rattle.certificates.proofs.Sets.{other_member, other_where}
use Rattle.certificates.specs.Pattern.{Pattern, InPatternRegion, IsCovered, PushesOut, after_push}
use Rattle.closure.specs.Trap.{AreOff, IsTrapOf, single}
use Rattle.certificates.proofs.RegionCells.{region_on, room_outside}
use Rattle.closure.proofs.Components.{other_cell}

-- No cell is on a trap without cells, and no box.
pub off_none : (trap : Cells) → trap ≡ set.empty → (c : Cell) → Lacks trap c
off_none trap none c = lacks_where trap c (λ on. has_empty c (rw none at on))

pub none_off : (trap : Cells) → trap ≡ set.empty → (boxes : List Cell) → AreOff trap boxes
none_off trap none boxes c has = off_none trap none c

-- No cells are a trap of any list.
pub no_trap : (level : Level) (patterns : List Pattern) (trap : CellsOn) → trap.extent ≡ level.shape → trap.members ≡ set.empty → IsTrapOf level patterns trap
no_trap level patterns trap extent none =
    let never = λ (c : Cell) (has : Has trap.members c). has_empty c (rw none at has) in
    record { extent = extent; singles = λ c has. absurd (never c has); closed = λ b c has _. absurd (never b has) }

-- Boxes that are off the trap are so after a push to a cell off it.
pub off_after : (trap : Cells) (boxes : List Cell) (from to : Cell) → AreOff trap boxes → Lacks trap to → (c : Cell) → Has (moved (cells_in boxes) from to) c →
    Lacks trap c
off_after trap boxes from to off free c has = either (has_insert (set.remove (cells_in boxes) from) to c has)
    (λ same. rw same free)
    (λ rest. off c (has_remove (cells_in boxes) from c rest).1)

module _ (level : Level) (formed : IsWellFormed level) (patterns : List Pattern) (trap : CellsOn) (is : IsTrapOf level patterns trap) where
  covers_trapped : (s : State) (c : Cell) → Has trap.members c → Has s.boxes c → Has level.room s.player → s.player ≢ c → IsCovered level patterns s
  covers_trapped s c has box inside other = (
    single c,
    is.singles c has,
    record {
      boxes = λ q named. rw (has_only c q named) box;
      player = (room_outside level formed (only c) s.player).0 (inside, lacks_only c s.player other);
    },
  )

  pub start_trapped : (c : Cell) → Has trap.members c → Has level.boxes c → IsCovered level patterns (start level)
  start_trapped c has box = search (covers_trapped, other_where)

  module _ (pattern : Pattern) (floor : (c : Cell) → Has pattern.boxes c → IsFloor level c) (room : (c : Cell) → InPatternRegion level pattern c → Has level.room c)
      (push : Push) (out : PushesOut level pattern push) where
    pub from_room : Has level.room push.from
    from_room =
        subst (Has level.room) (sym out.next_cell) (formed.goes_on push.player push.dir (room push.player out.standing)
        (rw out.next_cell at (floor push.from out.box)))

    pub to_room : Has level.room (neighbor push.from push.dir)
    to_room = formed.goes_on push.from push.dir from_room (rw (← out.cell_behind) (out.free.on, out.free.no_wall))

    behind : neighbor push.from (opposite push.dir) ≡ push.player
    behind =
        let on = region_on level pattern push.player out.standing in
        ap (λ q. neighbor q (opposite push.dir)) out.next_cell ∙ neighbor_back push.player push.dir on.top on.left

    -- The result of a push to the trap is covered.
    pub onto_trap : Has trap.members push.to → IsCovered level patterns (after_push pattern push)
    onto_trap has = search (covers_trapped, inserted, from_room, other_member)

    -- So is that of each push of a pattern with a box on the trap.
    pub trapped_push : (c : Cell) → Has pattern.boxes c → Has trap.members c → IsCovered level patterns (after_push pattern push)
    trapped_push c box has = same_or_other c push.from
        (λ same. onto_trap (is.closed push.from push.to (rw same at has) (record {
          dir = push.dir;
          next = out.cell_behind;
          behind = rw behind (room push.player out.standing);
          ahead = rw out.cell_behind to_room;
        })))
        (λ other.
        let apart = other_cell c push.from other in
        covers_trapped (after_push pattern push) c has
        (kept_by_insert (set.remove pattern.boxes push.from) push.to c (kept_by_remove pattern.boxes push.from c apart box)) from_room (λ e. apart (sym e)))
