-- Why made lists are closed.
-- The seeds of a made pattern are the whole room, so its region is the room without its boxes, and the player never leaves the room.
-- A box on a dead square can only be pushed to a cell of the room. If that cell were live, the dead square would be live too. So it is
-- dead, and its own pattern covers the result of the push. A push out of the frozen set can only lead to a dead square, since each box
-- of the set is held in each direction, and the pattern of that square covers the result.
use Rattle.std.proofs.Common.{◌≡◌, ◌≢◌, zero, suc, List, [], ◌∷◌, ◌++◌, refl, sym, ◌∙◌, ap, subst, inl, arith}
use Rattle.std.specs.FinSet as set
use Rattle.std.specs.List.{Contains}
use Rattle.std.proofs.lemmas.List.Elements.{Contains-append_left, Contains-push, Contains-append_cases}
use Rattle.cellset.specs.Cell.{neighbor, opposite}
use Rattle.cellset.specs.CellSet.{Cells, Has, Lacks, only}
use Rattle.cellset.specs.declared.cell.Cell.{Cell}
use Rattle.cellset.proofs.Filters.{later_in}
use Rattle.cellset.proofs.Members.{has_or_lacks, not_both, inserted, has_only, lacks_only, same_members}
use Rattle.cellset.proofs.Neighbors.{neighbor_back}
use Rattle.cellset.proofs.Truth.{either}
use Rattle.reach.specs.declared.pushes.Push.{Push}
use Rattle.board.specs.Game.{Level, State, IsFloor, start}
use Rattle.board.specs.Board.{IsWellFormed}
use Rattle.answers.specs.declared.pattern.Coord.{Coord}
use Rattle.answers.specs.Body.{PatternLine}
use Rattle.certificates.specs.CellLists.{cell_of}
use Rattle.certificates.proofs.CellLists.{of_cells}
use Rattle.certificates.specs.Pattern.{Pattern, whole_room, pattern_of, patterns_of, Covers, IsCovered, PushesOut, after_push, IsLawful, CoversPushesOf}
use Rattle.certificates.specs.Closed.{Closed}
use Rattle.certificates.proofs.RegionCells.{room_outside}
use Rattle.maker.specs.Dead.{IsRelaxedPush, at_goal, pushed, AreDead}
use Rattle.maker.specs.Frozen.{IsFrozen, IsLargestFrozen}
use Rattle.answers.specs.Canonical.{lone_patterns}
use Rattle.maker.specs.Made.{IsListOf, IsMadeOfDead, IsMadeOfFrozen, HasDeadBox}
use Rattle.maker.proofs.Listing.{listed_cell}
use Rattle.maker.proofs.Thawing.{held_more}

-- The pattern of some boxes, with the whole room for its seeds.
abbrev roomy : Cells → Pattern
roomy boxes = record { boxes = boxes; seeds = whole_room }

-- A list of lone patterns has the pattern of each of its cells.
lone_in : (coords : List Coord) (x : Coord) → Contains coords x → Contains (patterns_of (lone_patterns coords)) (roomy (only (cell_of x)))
lone_in [] x (k, within, is) = absurd (omega arith)
lone_in (y ∷ coords) x (zero, within, is) = grind arith
lone_in (y ∷ coords) x (suc k, within, is) =
    let rest = lone_in coords x (k, omega arith, is) in
    later_in (roomy (only (cell_of y))) (patterns_of (lone_patterns coords)) (roomy (only (cell_of x))) rest

lone_of : (coords : List Coord) (p : Pattern) → Contains (patterns_of (lone_patterns coords)) p
    → (x : Coord) × Contains coords x × (roomy (only (cell_of x)) ≡ p)
lone_of [] p (k, within, is) = absurd (omega arith)
lone_of (y ∷ coords) p (zero, within, is) = grind arith
lone_of (y ∷ coords) p (suc k, within, is) =
    let rest = lone_of coords p (k, omega arith, is) in
    (rest.0, later_in y coords rest.0 rest.1, rest.2)

-- The patterns of the cells of a set.
module _ (cells : Cells) (coords : List Coord) (list : IsListOf cells coords) where
  each_in : (k : Cell) → Has cells k → Contains (patterns_of (lone_patterns coords)) (roomy (only k))
  each_in k has =
      let from = of_cells coords k (rw list.same has) in
      subst (λ (c : Cell). Contains (patterns_of (lone_patterns coords)) (roomy (only c))) from.2 (lone_in coords from.0 from.1)

  each_of : (P : Pattern → Type 0) → ((k : Cell) → Has cells k → P (roomy (only k))) → (p : Pattern) → Contains (patterns_of (lone_patterns coords)) p → P p
  each_of P of_cell p h =
      let from = lone_of coords p h in
      rw from.2 at (of_cell (cell_of from.0) (rw list.same at (listed_cell coords from.0 from.1)))

module _ (level : Level) (formed : IsWellFormed level) where
  -- A pattern with the whole room is lawful if its boxes are on floor and one is off the goals.
  roomy_lawful : (boxes : Cells) → ((c : Cell) → Has boxes c → IsFloor level c) → (c : Cell) → Has boxes c → Lacks level.goals c → IsLawful level (roomy boxes)
  roomy_lawful boxes floor c has off = grind (arith, either)

  only_within : (k : Cell) (boxes : Cells) → Has boxes k → (c : Cell) → Has (only k) c → Has boxes c
  only_within k boxes has c h = grind (arith, has_only)

  -- The pattern of one cell covers each state with a box there and the player elsewhere in the room.
  covers_only : (k : Cell) (s : State) → Has s.boxes k → Has level.room s.player → s.player ≢ k → Covers level (roomy (only k)) s
  covers_only k s has room other = grind (arith, only_within, room_outside, lacks_only)

  -- At a push, the box's cell and the cell behind it are in the room.
  player_room : (boxes : Cells) (push : Push) → PushesOut level (roomy boxes) push → Has level.room push.player × Lacks boxes push.player
  player_room boxes push out = grind (arith, room_outside)

  box_room : (boxes : Cells) (push : Push) → PushesOut level (roomy boxes) push → IsFloor level push.from → Has level.room push.from
  box_room boxes push out floor = grind (arith, player_room)

  to_floor : (boxes : Cells) (push : Push) → PushesOut level (roomy boxes) push → IsFloor level push.to
  to_floor boxes push out = (out.free.on, out.free.no_wall)

  to_room : (boxes : Cells) (push : Push) → PushesOut level (roomy boxes) push → IsFloor level push.from → Has level.room push.to
  to_room boxes push out floor = grind (arith, box_room, to_floor)

  -- At a push, the player is behind the box.
  behind : (boxes : Cells) (push : Push) → PushesOut level (roomy boxes) push → neighbor push.from (opposite push.dir) ≡ push.player
  behind boxes push out = grind (arith, player_room, neighbor_back)

  -- A push moves the box to another cell.
  apart : (boxes : Cells) (push : Push) → PushesOut level (roomy boxes) push → push.from ≢ push.to
  apart boxes push out e = grind (arith, not_both)

  module _ (dead : Cells) (exact : AreDead level dead) where
    dead_floor : (k : Cell) → Has dead k → IsFloor level k
    dead_floor k has = grind (arith, either)

    dead_lawful : (k : Cell) → Has dead k → IsLawful level (roomy (only k))
    dead_lawful k has =
        roomy_lawful (only k) (λ c h. rw (has_only k c h) (dead_floor k has)) k (inserted set.empty k)
        (has_or_lacks level.goals k (λ goal. absurd (((exact k).0 has).1 (at_goal goal))) (λ l. l))

    module _ (patterns : List Pattern) (listed : (k : Cell) → Has dead k → Contains patterns (roomy (only k))) where
      -- A state with a box on a dead square is covered.
      dead_covers : (k : Cell) (s : State) → Has dead k → Has s.boxes k → Has level.room s.player → s.player ≢ k → IsCovered level patterns s
      dead_covers k s dead_k box room other = (roomy (only k), listed k dead_k, covers_only k s box room other)

      -- A box on a dead square can only be pushed to a dead square.
      dead_push : (k : Cell) → Has dead k → CoversPushesOf level patterns (roomy (only k))
      dead_push k dead_k push out =
          let is_k = has_only k push.from out.box in
          let floor = rw (← is_k) at (dead_floor k dead_k) in
          let relaxed : IsRelaxedPush level push.from push.dir = record {
            player = rw (behind (only k) push out) (player_room (only k) push out).0;
            floor = rw out.cell_behind at (to_floor (only k) push out);
          } in
          let not_live = ((exact k).0 dead_k).1 in
          let to_dead : Has dead push.to = (exact push.to).1 (
            inl (to_room (only k) push out floor),
            λ live. not_live (rw is_k at (pushed push.dir relaxed (rw out.cell_behind at live))),
          ) in
          dead_covers push.to (after_push (roomy (only k)) push) to_dead (inserted (set.remove (only k) push.from) push.to)
          (box_room (only k) push out floor) (apart (only k) push out)

      -- A push out of a frozen set leaves a box on a dead square.
      frozen_push : (frozen : Cells) → IsFrozen level dead frozen → CoversPushesOf level patterns (roomy frozen)
      frozen_push frozen hold push out =
          let floor = formed.boxes push.from (hold.boxes push.from out.box) in
          let standing = player_room frozen push out in
          let back = behind frozen push out in
          let on = out.cell_behind in
          either (hold.held push.from push.dir out.box)
          (λ held. either held
          (λ outside. not_both level.room push.player standing.0 (rw back at outside))
          (λ box. not_both frozen push.player (rw back at box) standing.1))
          (λ held. either held
          (λ wall. absurd (wall (rw on at (to_floor frozen push out))))
          (λ held. either held
          (λ box. not_both frozen push.to (rw on box) out.free.no_bar)
          (λ is_dead.
          dead_covers push.to (after_push (roomy frozen) push) (rw on is_dead) (inserted (set.remove frozen push.from) push.to)
          (box_room frozen push out floor) (apart frozen push out))))

-- ---- the whole lists
dead_closed : (level : Level) → IsWellFormed level → (dead : Cells) → AreDead level dead → HasDeadBox level
    → (coords : List Coord) → IsListOf dead coords → Closed level (patterns_of (lone_patterns coords))
dead_closed level formed dead exact (box, here, is_dead) coords list =
    let patterns = patterns_of (lone_patterns coords) in
    let listed = each_in dead coords list in
    record {
      lawful = each_of dead coords list (IsLawful level) (dead_lawful level formed dead exact);
      start = dead_covers level formed dead exact patterns listed box (start level) ((exact box).1 is_dead) here formed.here
          (λ e. not_both level.boxes box here (rw e at formed.apart));
      pushes = each_of dead coords list (CoversPushesOf level patterns) (dead_push level formed dead exact patterns listed);
    }

pub dead_lists_closed : (level : Level) (lines : List PatternLine) → IsWellFormed level → IsMadeOfDead level lines → Closed level (patterns_of lines)
dead_lists_closed level lines formed made =
    let (dead, exact, (coords, list, is)) = made.list in
    subst (λ (ls : List PatternLine). Closed level (patterns_of ls)) (sym is) (dead_closed level formed dead exact made.box coords list)

-- A level has one set of dead squares.
pub one_dead_set : (level : Level) (a b : Cells) → AreDead level a → AreDead level b → a ≡ b
one_dead_set level a b of_a of_b = grind (arith, same_members)

-- The largest frozen set is frozen.
largest_frozen : (level : Level) (dead frozen : Cells) → IsLargestFrozen level dead frozen → IsFrozen level dead frozen
largest_frozen level dead frozen largest = record {
  boxes = λ c h. let (some, hold, has) = (largest c).0 h in hold.boxes c has;
  held = λ b d h.
      let (some, hold, has) = (largest b).0 h in
      held_more level dead some frozen b d (λ c in_some. (largest c).1 (some, hold, in_some)) (hold.held b d has);
}

patterns_push : (first : List PatternLine) (last : PatternLine) → patterns_of (first ++ last ∷ []) ≡ patterns_of first ++ pattern_of last ∷ []
patterns_push [] last = refl
patterns_push (x ∷ first) last = ap (λ l. pattern_of x ∷ l) (patterns_push first last)

frozen_closed : (level : Level) → IsWellFormed level → (dead : Cells) → AreDead level dead → (frozen : Cells) → IsFrozen level dead frozen
    → (c : Cell) → Has frozen c → Lacks level.goals c
    → (coords : List Coord) → IsListOf dead coords → Closed level (patterns_of (lone_patterns coords) ++ roomy frozen ∷ [])
frozen_closed level formed dead exact frozen hold box here off coords list =
    let lone = patterns_of (lone_patterns coords) in
    let last = roomy frozen ∷ [] in
    let patterns = lone ++ last in
    let listed = λ (k : Cell) (h : Has dead k). Contains-append_left lone last (roomy (only k)) (each_in dead coords list k h) in
    let each = λ (P : Pattern → Type 0) (of_dead : (k : Cell) → Has dead k → P (roomy (only k))) (of_frozen : P (roomy frozen))
    (p : Pattern) (h : Contains patterns p).
    either (Contains-append_cases lone last p h) (each_of dead coords list P of_dead p)
    (λ in_last. rw (only_element (roomy frozen) p in_last) at of_frozen) in
    record {
      lawful = each (IsLawful level) (dead_lawful level formed dead exact)
          (roomy_lawful level formed frozen (λ c h. formed.boxes c (hold.boxes c h)) box here off);
      start = (
        roomy frozen,
        Contains-push lone (roomy frozen),
        record {
          boxes = hold.boxes;
          player = (room_outside level formed frozen level.player).0 (
            formed.here,
            has_or_lacks frozen level.player (λ h. not_both level.boxes level.player (hold.boxes level.player h) formed.apart) (λ l. l),
          );
        },
      );
      pushes = each (CoversPushesOf level patterns) (dead_push level formed dead exact patterns listed)
          (frozen_push level formed dead exact patterns listed frozen hold);
    }
  where
    only_element : {X : Type 0} (x p : X) → Contains (x ∷ []) p → x ≡ p
    only_element x p (zero, within, is) = is
    only_element x p (suc k, within, is) = absurd (omega arith)

pub frozen_lists_closed : (level : Level) (lines : List PatternLine) → IsWellFormed level → IsMadeOfFrozen level lines → Closed level (patterns_of lines)
frozen_lists_closed level lines formed made =
    let (dead, exact, (coords, list, is)) = made.dead in
    let (over, over_exact, largest) = made.exact in
    let (box, here, off) = made.off_goals in
    let (boxes, boxes_list, is_last) = made.boxes in
    let one = one_dead_set level over dead over_exact exact in
    let hold = largest_frozen level dead made.frozen (rw one at largest) in
    let of_last : pattern_of made.last ≡ roomy made.frozen = ap pattern_of is_last ∙ ap roomy boxes_list.same in
    let of_lines : patterns_of lines ≡ patterns_of (lone_patterns coords) ++ roomy made.frozen ∷ [] =
    ap patterns_of made.list
    ∙ (patterns_push made.first made.last
    ∙ (ap (λ (ls : List PatternLine). patterns_of ls ++ pattern_of made.last ∷ []) is
    ∙ ap (λ (p : Pattern). patterns_of (lone_patterns coords) ++ p ∷ []) of_last)) in
    rw of_lines (frozen_closed level formed dead exact made.frozen hold box here off coords list)
