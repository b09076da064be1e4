-- Pushes out of a group, box by box and direction by direction. A push out of the group comes from its region and goes to a cell of the room
-- that has no box of the group, and each push that does so goes out (`goes_out`). After a push the player is on the cell that the box left. So a
-- group covers the result if its boxes are all there after the push and its region has that cell. A push out of a pattern is a push out of its
-- group.
use Rattle.std.proofs.Common.{◌≡◌, ◌≢◌, Bool, false, ℕ, ◌<◌, ◌≤◌, List, length, get_or, set, refl, sym, ◌∙◌, ap, subst, inl, inr, arith}
use Rattle.std.{specs.Prelude.IsTrue, specs.Prelude.slice_index, specs.List.Contains, proofs.lemmas.Bool.cases_lt, proofs.lemmas.Bool.false≢true}
use Rattle.std.proofs.lemmas.List.{get_or-set_other, get_or-set_same, length-set, get_or_default}
use Rattle.cellset.specs.{Cell.IsOn, Cell.neighbor, Cell.opposite, CellSet.Cells, CellSet.Has, declared.cell.Cell.Cell, declared.dir.Dir.Dir}
use Rattle.cellset.specs.declared.dir.Dir.TheVariants.{L, U, R, D}
use Rattle.cellset.proofs.Neighbors.{neighbor_back}
use Rattle.reach.specs.{declared.pushes.Push.Push}
use Rattle.board.specs.Game.{Level, IsFloor, moved}
use Rattle.certificates.specs.CellLists.{cell_no, cells_in}
use Rattle.certificates.proofs.CellLists.{in_list, no_cell}
use Rattle.cellset.proofs.CellLists.{has_listed}
use Rattle.certificates.specs.Pattern.{Pattern, InPatternRegion, IsCovered, PushesOut, after_push, CoversPushesOf}
use Rattle.closure.specs.{Arena.pattern_at, GroupRegions.IsFreeAt, Run.state_after, declared.groups.Groups.Groups}
use Rattle.closure.specs.{declared.tables.Tables.Tables, Groups.IsGrouped, Groups.boxes_of, Groups.list_of, Groups.position_at, Tables.AreTables}
use Rattle.closure.specs.GroupPushes.{AreNoted, CoversFrom, CoversToward, IsPushOf, IsPushedBox, pushed_cell}
use Rattle.closure.specs.{Ways.goes, declared.tables.PushedBox.PushedBox, declared.ways.Ways.Ways}
use Rattle.certificates.proofs.RegionCells.{region_on}
use Rattle.closure.proofs.Arenas.{list_long}
use Rattle.closure.proofs.Grouped.{box_floor, covered_of_group, group_in_room, line_boxes, of_line}
use Rattle.closure.proofs.Traps.{from_room, onto_trap, to_room, trapped_push}

opposite_twice : (d : Dir) → opposite (opposite d) ≡ d
opposite_twice L = refl
opposite_twice U = refl
opposite_twice R = refl
opposite_twice D = refl

module _ (level : Level) (pattern : Pattern) (cell : Cell) (dir : Dir) where
  pub player_behind : (push : Push) → PushesOut level pattern push → push.from ≡ cell → push.dir ≡ dir → push.player ≡ neighbor cell (opposite dir)
  player_behind push out from toward = grind (arith, region_on, neighbor_back)

  pub to_is : (push : Push) → PushesOut level pattern push → push.from ≡ cell → push.dir ≡ dir → push.to ≡ neighbor cell dir
  to_is push out from toward = out.cell_behind ∙ (ap (λ c. neighbor c push.dir) from ∙ ap (λ e. neighbor cell e) toward)

  -- There is just one such push.
  pub same_push : (p : Push) → IsPushOf level pattern cell dir p → (q : Push) → PushesOut level pattern q → q.from ≡ cell → q.dir ≡ dir → q ≡ p
  same_push p of q out from toward =
      let player : q.player ≡ p.player = player_behind q out from toward ∙ sym (player_behind p of.out of.from of.dir_is) in
      let dirs : q.dir ≡ p.dir = toward ∙ sym of.dir_is in
      let froms : q.from ≡ p.from = from ∙ sym of.from in
      let tos : q.to ≡ p.to = to_is q out from toward ∙ sym (to_is p of.out of.from of.dir_is) in
      subst (λ x. q ≡ record { player = x; dir = p.dir; from = p.from; to = p.to }) player
      (subst (λ x. q ≡ record { player = q.player; dir = x; from = p.from; to = p.to }) dirs
      (subst (λ x. q ≡ record { player = q.player; dir = q.dir; from = x; to = p.to }) froms
      (subst (λ x. q ≡ record { player = q.player; dir = q.dir; from = q.from; to = x }) tos refl)))

  -- If the result of one push of a box in a direction is covered, so is that of each push that moves the box that way.
  pub covered_one : (patterns : List Pattern) (p : Push) → IsPushOf level pattern cell dir p → IsCovered level patterns (after_push pattern p) →
      CoversToward level patterns pattern cell dir
  covered_one patterns p of covered q out from toward =
      let from_same : p.from ≡ q.from = of.from ∙ sym from in
      let to_same : p.to ≡ q.to = to_is p of.out of.from of.dir_is ∙ sym (to_is q out from toward) in
      subst (λ f. IsCovered level patterns (record { player = f; boxes = moved pattern.boxes f q.to })) from_same (rw to_same at covered)

-- The results of a box's pushes are covered if those in each direction are.
pub covered_each_way : (level : Level) (patterns : List Pattern) (pattern : Pattern) (cell : Cell)
    → CoversToward level patterns pattern cell L → CoversToward level patterns pattern cell U → CoversToward level patterns pattern cell R →
    CoversToward level patterns pattern cell D → CoversFrom level patterns pattern cell
covered_each_way level patterns pattern cell l u r d push out from = grind arith

-- The results of the pushes out of a pattern are covered if the results are for each of its boxes.
pub covered_each_box : (level : Level) (patterns : List Pattern) (pattern : Pattern) (boxes : List Cell) (n : ℕ) → length boxes ≤ n →
    cells_in boxes ≡ pattern.boxes → ((i : ℕ) → i < n → CoversFrom level patterns pattern (cell_no boxes i)) → CoversPushesOf level patterns pattern
covered_each_box level patterns pattern boxes n past own each push out = grind (arith, has_listed, get_or_default, no_cell)

-- A push out of a pattern is one out of its group.
pub out_of_group : (level : Level) (groups : Groups) → IsGrouped groups → (j : ℕ) → j < length groups.arena.lines.items → (push : Push)
    → PushesOut level (pattern_at (list_of groups) j) push → PushesOut level (position_at level groups (slice_index groups.of.items j)) push
out_of_group level groups grouped j lt push out = grind (arith, line_boxes, of_line)

-- The results of the pushes out of a pattern are covered if the results are for its group.
pub pattern_of_group : (level : Level) (groups : Groups) → IsGrouped groups → (j : ℕ) → j < length groups.arena.lines.items
    → CoversPushesOf level (list_of groups) (position_at level groups (slice_index groups.of.items j)) →
    CoversPushesOf level (list_of groups) (pattern_at (list_of groups) j)
pattern_of_group level groups grouped j lt covers push out =
    subst (λ b. IsCovered level (list_of groups) (state_after b push)) (sym (line_boxes level groups grouped (slice_index groups.of.items j) j lt refl))
    (covers push (out_of_group level groups grouped j lt push out))

-- ---- the facts about a group
module _ {S : Type 0} (tables : Tables S) (is : AreTables tables) (g : ℕ) where
  -- A group covers the result of a push if the state then has its boxes, and its region has the cell that the box left.
  pub covers_result : (before : Cells) (push : Push) → ((c : Cell) → Has (cells_in (boxes_of tables.groups g)) c →
      Has (moved before push.from push.to) c)
      → InPatternRegion tables.board.now (position_at tables.board.now tables.groups g) push.from →
      IsCovered tables.board.now (list_of tables.groups) (state_after before push)
  covers_result before push stand inside =
      covered_of_group tables.board.now tables.groups is.grouped (state_after before push) g (record { boxes = stand; player = inside })

  module _ (lt : g < length tables.groups.spans.items) where
    abbrev position : Pattern
    position = position_at tables.board.now tables.groups g

    floor : (c : Cell) → Has (cells_in (boxes_of tables.groups g)) c → IsFloor tables.board.now c
    floor = box_floor tables.board.now tables.groups is.lawful is.grouped g lt

    in_room : (c : Cell) → InPatternRegion tables.board.now position c → Has tables.board.now.room c
    in_room = group_in_room tables.board.now is.formed tables.groups is.grouped is.lawful g

    -- ---- where a push out of the group comes from and goes to
    module _ (push : Push) (out : PushesOut tables.board.now position push) where
      pub leaves_room : Has tables.board.now.room push.from
      leaves_room = from_room tables.board.now is.formed (list_of tables.groups) tables.trap is.trap position floor in_room push out

      pub to_free : IsFreeAt tables.board.now tables.groups g push.to
      to_free = (
        rw out.cell_behind (to_room tables.board.now is.formed (list_of tables.groups) tables.trap is.trap position floor in_room push out),
        out.free.no_bar,
      )

      -- A push to the trap is covered.
      pub onto_trap_covered : Has tables.trap.members push.to → IsCovered tables.board.now (list_of tables.groups) (after_push position push)
      onto_trap_covered = onto_trap tables.board.now is.formed (list_of tables.groups) tables.trap is.trap position floor in_room push out

    module _ (number : ℕ) (low : number < length (boxes_of tables.groups g)) (dir : Dir) where
      abbrev cell : Cell
      cell = cell_no (boxes_of tables.groups g) number

      cell_in : Has (cells_in (boxes_of tables.groups g)) cell
      cell_in = in_list (boxes_of tables.groups g) number no_cell low

      pub cell_on : IsOn tables.board.now.shape cell
      cell_on = (floor cell cell_in).0

      -- What goes in the direction.
      pub goes_toward : (push : Push) → PushesOut tables.board.now position push → push.from ≡ cell → push.dir ≡ dir
          → InPatternRegion tables.board.now position (neighbor cell (opposite dir)) × IsFreeAt tables.board.now tables.groups g (neighbor cell dir)
      goes_toward push out from toward = (
        rw (player_behind tables.board.now position cell dir push out from toward) at out.standing,
        rw (to_is tables.board.now position cell dir push out from toward) at (to_free push out),
      )

      pub goes_out : InPatternRegion tables.board.now position (neighbor cell (opposite dir)) → IsFreeAt tables.board.now tables.groups g (neighbor cell dir)
          → (player to : Cell) → player ≡ neighbor cell (opposite dir) → to ≡ neighbor cell dir
          → IsPushOf tables.board.now position cell dir (record { player = player; dir = dir; from = cell; to = to })
      goes_out inside free player to player_at to_at =
          let ahead = is.formed.room (neighbor cell dir) free.0 in
          record {
            out = record {
              standing = rw player_at inside;
              next_cell = sym (ap (λ c. neighbor c dir) player_at ∙ (ap (neighbor (neighbor cell (opposite dir))) (sym (opposite_twice dir)) ∙ neighbor_back cell (opposite dir) cell_on.top cell_on.left));
              box = cell_in;
              cell_behind = to_at;
              free = rw to_at (record { on = ahead.0; no_wall = ahead.1; no_bar = free.1 });
            };
            from = refl;
            dir_is = refl;
          }

    -- ---- the trap
    -- The results of the pushes of a group with a box on the trap are covered, and so is the result of each push to the trap.
    pub trapped_pushes : (c : Cell) → Has (cells_in (boxes_of tables.groups g)) c → Has tables.trap.members c →
        CoversPushesOf tables.board.now (list_of tables.groups) position
    trapped_pushes c box has push out = search (trapped_push, box_floor, group_in_room)

    pub toward_trap : (cell : Cell) (dir : Dir) (p : Push) → IsPushOf tables.board.now position cell dir p → Has tables.trap.members p.to →
        CoversToward tables.board.now (list_of tables.groups) position cell dir
    toward_trap cell dir p of has = covered_one tables.board.now position cell dir (list_of tables.groups) p of (onto_trap_covered p of.out has)

-- ---- the facts about a box of a group
module _ {S : Type 0} (tables : Tables S) (is : AreTables tables) (pushed : PushedBox) (of : IsPushedBox tables pushed) (dir : Dir) where
  low : pushed.number < length (boxes_of tables.groups pushed.group)
  low = subst (λ b. pushed.number < length b) of.boxes of.number

  same_cell : cell_no (boxes_of tables.groups pushed.group) pushed.number ≡ pushed_cell pushed
  same_cell = ap (λ b. cell_no b pushed.number) (sym of.boxes)

  pub pushed_on : IsOn tables.board.now.shape (pushed_cell pushed)
  pushed_on = subst (IsOn tables.board.now.shape) same_cell (cell_on tables is pushed.group of.group pushed.number low dir)

  pub pushed_toward : (push : Push) → PushesOut tables.board.now (position_at tables.board.now tables.groups pushed.group) push → push.from ≡ pushed_cell pushed → push.dir ≡ dir
      → InPatternRegion tables.board.now (position_at tables.board.now tables.groups pushed.group) (neighbor (pushed_cell pushed) (opposite dir))
      × IsFreeAt tables.board.now tables.groups pushed.group (neighbor (pushed_cell pushed) dir)
  pushed_toward push out from toward = rw same_cell at (goes_toward tables is pushed.group of.group pushed.number low dir push out (from ∙ sym same_cell) toward)

  pub pushed_out : InPatternRegion tables.board.now (position_at tables.board.now tables.groups pushed.group) (neighbor (pushed_cell pushed) (opposite dir))
      → IsFreeAt tables.board.now tables.groups pushed.group (neighbor (pushed_cell pushed) dir) → (player to : Cell) → player ≡ neighbor (pushed_cell pushed) (opposite dir)
      → to ≡ neighbor (pushed_cell pushed) dir
      → IsPushOf tables.board.now (position_at tables.board.now tables.groups pushed.group) (pushed_cell pushed) dir
      (record { player = player; dir = dir; from = pushed_cell pushed; to = to })
  pushed_out = rw same_cell at (goes_out tables is pushed.group of.group pushed.number low dir)

-- A box without ways has no push.
goes_none : (w : Ways) (d : Dir) → w.bits ≡ 0 → goes w d ≡ false
goes_none w L none = rw none refl
goes_none w U none = rw none refl
goes_none w R none = rw none refl
goes_none w D none = rw none refl

pub held_box : {S : Type 0} (tables : Tables S) → AreTables tables → (pushed : PushedBox) → IsPushedBox tables pushed → pushed.ways.bits ≡ 0 → (patterns : List Pattern)
    → CoversFrom tables.board.now patterns (position_at tables.board.now tables.groups pushed.group) (pushed_cell pushed)
held_box tables is pushed of none patterns push out from =
    absurd (false≢true (sym (goes_none pushed.ways push.dir none) ∙ (of.ways push.dir).1 (pushed_toward tables is pushed of push.dir push out from refl)))

-- ---- notes
module _ (level : Level) (groups : Groups) (noted : List Bool) (are : AreNoted level groups noted) where
  -- Another note is right if the list covers the pushes of its group or it is false.
  pub noted_more : (g : ℕ) (b : Bool) → g < length groups.spans.items → (IsTrue b → CoversPushesOf level (list_of groups) (position_at level groups g)) →
      AreNoted level groups (set noted g b)
  noted_more g b lt here = record {
    long = length-set noted g b ∙ are.long;
    covers = λ k low.
        let was = length-set noted g b in
        let long = are.long in
        let low_old : k < length noted = omega arith in
        let other = λ (ne : k ≢ g) (true_there : IsTrue (get_or (set noted g b) k false)).
        are.covers k low_old (rw (get_or-set_other noted g k b false ne) at true_there) in
        elim (cases_lt k g) [
          | inl before ↦ other (λ e. omega arith)
          | inr from ↦ elim (cases_lt g k) [
            | inl past ↦ other (λ e. omega arith)
            | inr until ↦
                let same : g ≡ k = omega arith in
                λ true_there. rw same at (here (rw (← same, get_or-set_same noted g b false (omega arith)) at true_there))
          ]
        ];
  }

  -- If all notes are true, the list covers the pushes of each of its patterns.
  pub covers_all : IsGrouped groups → ((g : ℕ) → g < length noted → IsTrue (get_or noted g false)) → (p : Pattern) → Contains (list_of groups) p →
      CoversPushesOf level (list_of groups) p
  covers_all grouped all p (k, low, is) =
      let listed = list_long groups.arena in
      let lt : k < length groups.arena.lines.items = omega arith in
      let g = slice_index groups.of.items k in
      let into = grouped.all.into k lt in
      let long = are.long in
      let in_notes : g < length noted = omega arith in
      subst (CoversPushesOf level (list_of groups)) (get_or_default (list_of groups) k _ p low ∙ is)
      (pattern_of_group level groups grouped k lt (are.covers g in_notes (all g in_notes)))
