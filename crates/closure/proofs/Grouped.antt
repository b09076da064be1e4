-- Groups of patterns. The position of a group is one pattern. A cell is in its region exactly if it is in the region of one of its lines,
-- since they have the boxes of the position, and the seeds of the position are theirs. So a list covers a state exactly if the position
-- of a group does. The cells that walks over free cells reach from the free seeds of the lines are the region of the position.
use Rattle.std.proofs.Common.{◌≡◌, Bool, true, false, ℕ, zero, suc, ◌<◌, List, [], ◌∷◌, length, refl, sym, ◌∙◌, ap, subst, inl, inr, arith}
use Rattle.std.specs.Prelude.{◌↔◌, cond, nat_eq, slice_index}
use Rattle.std.specs.FinSet as set
use Rattle.std.proofs.lemmas.Bool.{cond-true, eq-eqb, eqb-true}
use Rattle.std.proofs.lemmas.List.{get_or_default}
use Rattle.cellset.specs.{Cell.IsOn, Cell.neighbor, CellSet.Cells, CellSet.Has, CellSet.Lacks, declared.cell.Cell.Cell}
use Rattle.cellset.proofs.Members.{has_empty}
use Rattle.reach.specs.{Region.InRegion, Region.IsFree, Reached.Reached, Reached.at_seed, Reached.by_step, Reached.WalksTo}
use Rattle.reach.specs.Region as region
use Rattle.board.specs.{Game.Level, Game.State, Game.IsFloor, Board.IsWellFormed}
use Rattle.certificates.specs.CellLists.{cells_in}
use Rattle.certificates.proofs.Sets.{has_difference, has_union, in_difference, in_union_left, in_union_right}
use Rattle.certificates.specs.Pattern.{Pattern, Seeds, whole_room, listed, seed_cells, Covers, InPatternRegion, IsCovered}
use Rattle.certificates.specs.Pattern.{IsLawful, AreLawful, IsListedSeed}
use Rattle.closure.specs.{Arena.pattern_at, declared.groups.Groups.Groups}
use Rattle.closure.specs.Groups.{HasLine, IsGrouped, IsSeed, IsSeedOf, SeedsAreIn, boxes_of, list_of, position_at, seeds_with}
use Rattle.closure.{specs.Tables.GroupCovers, proofs.Arenas.boxes_is, proofs.Arenas.list_long, proofs.Arenas.listed_at}
use Rattle.certificates.proofs.RegionCells.{region_lacks}

-- ---- seeds
-- The seeds of a group are the seeds of the patterns with its number.
module _ (level : Level) (g : ℕ) where
  seeded_in : (ps : List Pattern) (of : List ℕ) (j : ℕ) → j < length ps → j < length of → slice_index of j ≡ g → (c : Cell) →
      Has (seed_cells level (pattern_at ps j).boxes (pattern_at ps j).seeds) c → Has (seeds_with level g ps of) c
  unfolding seeds_with
  seeded_in [] of j lt low is c has = absurd (omega arith)
  seeded_in (p ∷ ps) [] j lt low is c has = absurd (omega arith)
  seeded_in (p ∷ ps) (k ∷ of) zero lt low is c has = search (in_union_left, cond-true, eq-eqb)
  seeded_in (p ∷ ps) (k ∷ of) (suc j) lt low is c has =
      in_union_right _ (seeds_with level g ps of) c (seeded_in ps of j (omega arith) (omega arith) is c has)

  kept_if : (b : Bool) (s : Cells) (c : Cell) → Has (cond b s set.empty) c → (b ≡ true) × Has s c
  kept_if true s c has = (refl, has)
  kept_if false s c has = has_empty c has

  seeded_by : (ps : List Pattern) (of : List ℕ) (c : Cell) → Has (seeds_with level g ps of) c
      → (j : ℕ) × (j < length ps) × (slice_index of j ≡ g) × Has (seed_cells level (pattern_at ps j).boxes (pattern_at ps j).seeds) c
  unfolding seeds_with
  seeded_by [] of c has = has_empty c has
  seeded_by (p ∷ ps) [] c has = has_empty c has
  seeded_by (p ∷ ps) (k ∷ of) c has = elim (has_union _ (seeds_with level g ps of) c has) [
    | inl first ↦ let here = kept_if (nat_eq k g) (seed_cells level p.boxes p.seeds) c first in (0, omega arith, eqb-true k g here.0, here.1)
    | inr rest ↦ let later = seeded_by ps of c rest in let low = later.1 in (suc later.0, omega arith, later.2, later.3)
  ]

seed_is : (level : Level) (boxes : Cells) (s : Seeds) (c : Cell) → Has level.room c → Lacks boxes c → IsSeed s c → Has (seed_cells level boxes s) c
seed_is level boxes whole_room c in_room lacks h = in_difference level.room boxes c in_room lacks
seed_is level boxes (listed cells) c in_room lacks h = h

seed_of : (level : Level) (boxes : Cells) (s : Seeds) (c : Cell) → Has (seed_cells level boxes s) c → IsSeed s c
seed_of level boxes whole_room c has = tt
seed_of level boxes (listed cells) c has = has

pub seed_among : (s : Seeds) (P : Cell → Type 0) (c : Cell) → SeedsAreIn s P → IsSeed s c → P c
seed_among whole_room P c all h = absurd all
seed_among (listed cells) P c all h = all c h

-- Another fact of the pattern of the same line.
pub on_line : {groups : Groups} {g : ℕ} {P Q : Pattern → Type 0} (line : HasLine groups g P) → Q (pattern_at (list_of groups) line.line) → HasLine groups g Q
on_line line fact = search

-- ---- positions
module _ (level : Level) (groups : Groups) (grouped : IsGrouped groups) where
  module _ (g : ℕ) where
    -- A line and its group have the same boxes.
    pub line_boxes : (j : ℕ) → j < length groups.arena.lines.items → slice_index groups.of.items j ≡ g →
        (pattern_at (list_of groups) j).boxes ≡ cells_in (boxes_of groups g)
    line_boxes j lt is = grind (arith, boxes_is)

    pub seed_of_line : (c : Cell) → HasLine groups g (λ p. Has (seed_cells level p.boxes p.seeds) c) →
        Has (seeds_with level g (list_of groups) groups.of.items) c
    seed_of_line c line = grind (arith, list_long, seeded_in)

    pub line_of_seed : (c : Cell) → Has (seeds_with level g (list_of groups) groups.of.items) c →
        HasLine groups g (λ p. Has (seed_cells level p.boxes p.seeds) c)
    line_of_seed c has = grind (arith, seeded_by, list_long)

    -- A cell is in the region of a position exactly if it is in the region of one of its lines.
    pub of_line : (j : ℕ) → j < length groups.arena.lines.items → slice_index groups.of.items j ≡ g → (c : Cell) →
        InPatternRegion level (pattern_at (list_of groups) j) c → InPatternRegion level (position_at level groups g) c
    of_line j lt is c (region.at_seed seed free) =
        region.at_seed (seed_of_line c (record { line = j; within = lt; grouped = is; fact = seed })) (rw (line_boxes j lt is) at free)
    of_line j lt is c (region.beside {c = b} d before free) = region.beside d (of_line j lt is b before) (rw (line_boxes j lt is) at free)

    pub line_of : (c : Cell) → InPatternRegion level (position_at level groups g) c → HasLine groups g (λ p. InPatternRegion level p c)
    line_of c (region.at_seed seed free) =
        let line = line_of_seed c seed in
        on_line line (region.at_seed line.fact (rw (line_boxes line.line line.within line.grouped) free))
    line_of c (region.beside {c = b} d before free) =
        let line = line_of b before in
        on_line line (region.beside d line.fact (rw (line_boxes line.line line.within line.grouped) free))

  -- the list covers a state exactly if the position of a group does
  pub covered_by_group : (s : State) → IsCovered level (list_of groups) s → (g : ℕ) × GroupCovers level groups g s
  covered_by_group s (pattern, (k, low, is), covers) =
      let long = list_long groups.arena in
      let lt : k < length groups.arena.lines.items = omega arith in
      let here : pattern_at (list_of groups) k ≡ pattern = get_or_default (list_of groups) k _ pattern low ∙ is in
      let g = slice_index groups.of.items k in (
        g,
        (
          grouped.all.into k lt,
          record {
            boxes = λ c has. covers.boxes c (rw (sym (line_boxes g k lt refl) ∙ ap (λ p. p.boxes) here) at has);
            player = of_line g k lt refl s.player (rw here covers.player);
          },
        ),
      )

  pub covered_of_group : (s : State) (g : ℕ) → Covers level (position_at level groups g) s → IsCovered level (list_of groups) s
  covered_of_group s g covers =
      let line = line_of g s.player covers.player in (
        pattern_at (list_of groups) line.line,
        listed_at groups.arena line.line line.within,
        record {
          boxes = λ c has. covers.boxes c (rw (line_boxes g line.line line.within line.grouped) at has);
          player = line.fact;
        },
      )

-- The cells of a region are in the room, because its seeds are, and a floor cell beside the room is in the room.
module _ (level : Level) (formed : IsWellFormed level) where
  seed_in_room : (boxes : Cells) (s : Seeds) (c : Cell) → ((q : Cell) → IsListedSeed s q → Has level.room q) → Has (seed_cells level boxes s) c →
      Has level.room c
  seed_in_room boxes whole_room c fair has = (has_difference level.room boxes c has).0
  seed_in_room boxes (listed cells) c fair has = fair c has

  chain_in_room : (boxes seeds : Cells) → ((q : Cell) → Has seeds q → Has level.room q) → (c : Cell) → InRegion level.shape level.walls boxes seeds c →
      Has level.room c
  chain_in_room boxes seeds fair c (region.at_seed seed free) = fair c seed
  chain_in_room boxes seeds fair c (region.beside {c = b} d before free) = formed.goes_on b d (chain_in_room boxes seeds fair b before) (free.on, free.no_wall)

  pub region_in_room : (p : Pattern) → IsLawful level p → (c : Cell) → InPatternRegion level p c → Has level.room c
  region_in_room p lawful = grind (arith, chain_in_room, seed_in_room)

  pub group_in_room : (groups : Groups) → IsGrouped groups → AreLawful level (list_of groups) → (g : ℕ) (c : Cell) →
      InPatternRegion level (position_at level groups g) c → Has level.room c
  group_in_room groups grouped lawful g c inside =
      let line = line_of level groups grouped g c inside in
      region_in_room (pattern_at (list_of groups) line.line) (lawful _ (listed_at groups.arena line.line line.within)) c line.fact

-- the boxes of a group of a lawful list
module _ (level : Level) (groups : Groups) (lawful : AreLawful level (list_of groups)) (grouped : IsGrouped groups) (g : ℕ)
    (lt : g < length groups.spans.items) where
  abbrev line : ℕ
  line = (grouped.all.first g lt).0

  -- the boxes of a group are on floor
  pub box_floor : (c : Cell) → Has (cells_in (boxes_of groups g)) c → IsFloor level c
  box_floor c has =
      let at = grouped.all.first g lt in
      let lawful_line = lawful _ (listed_at groups.arena line at.1) in
      let box = rw (← (line_boxes level groups grouped g line at.1 at.2)) at has in
      (lawful_line.board c (inl box), lawful_line.wall c box)

  -- the boxes of a group are on the grid
  pub box_on : (c : Cell) → Has (cells_in (boxes_of groups g)) c → IsOn level.shape c
  box_on c has = (box_floor c has).0

  -- A list that is the boxes of a group is on the grid.
  pub boxes_on : (boxes : List Cell) → boxes ≡ boxes_of groups g → (c : Cell) → Has (cells_in boxes) c → IsOn level.shape c
  boxes_on boxes is c has = box_on c (rw is at has)

  -- a group has a box
  pub some_box : (c : Cell) × Has (cells_in (boxes_of groups g)) c
  some_box =
      let at = grouped.all.first g lt in
      let off = (lawful _ (listed_at groups.arena line at.1)).goals in
      (off.0, rw (line_boxes level groups grouped g line at.1 at.2) at off.1)

-- ---- the region of a position
module _ (level : Level) (formed : IsWellFormed level) (groups : Groups) (grouped : IsGrouped groups) (lawful : AreLawful level (list_of groups)) (g : ℕ)
    (Free : Cell → Type 0) (free : (c : Cell) → Free c ↔ (Has level.room c × Lacks (cells_in (boxes_of groups g)) c)) where
  abbrev In : Cell → Type 0
  In = InPatternRegion level (position_at level groups g)

  is_free : (c : Cell) → Free c → IsFree level.shape level.walls (cells_in (boxes_of groups g)) c
  is_free c f = grind arith

  position_free : (c : Cell) → In c → Free c
  position_free c inside = grind (arith, group_in_room, region_lacks)

  abbrev Seed : Cell → Type 0
  Seed c = Free c × IsSeedOf groups g c

  there : (c : Cell) → Reached (WalksTo Free) Seed c → In c
  there c (at_seed seed) =
      let line = seed.1 in
      let p = pattern_at (list_of groups) line.line in
      let both = (free c).0 seed.0 in
      let lacks = rw (← (line_boxes level groups grouped g line.line line.within line.grouped)) at both.1 in
      region.at_seed (seed_of_line level groups grouped g c (on_line line (seed_is level p.boxes p.seeds c both.0 lacks line.fact))) (is_free c seed.0)
  there c (by_step b before step) =
      subst In (sym step.next) (region.beside step.dir (there b before) (is_free (neighbor b step.dir) (rw step.next at step.free)))

  back : (c : Cell) → In c → Reached (WalksTo Free) Seed c
  back c (region.at_seed seed f) =
      let line = line_of_seed level groups grouped g c seed in
      let p = pattern_at (list_of groups) line.line in
      at_seed (position_free c (region.at_seed seed f), on_line line (seed_of level p.boxes p.seeds c line.fact))
  back c (region.beside {c = b} q before f) =
      by_step b (back b before) (record { dir = q; next = refl; free = position_free (neighbor b q) (region.beside q before f) })

  pub reached_position : (c : Cell) → Reached (WalksTo Free) Seed c ↔ In c
  reached_position c = (there c, back c)
