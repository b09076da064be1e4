-- The invariant says that for each group so far the ways and the facts about its region are noted, and that the rows of the flood are on
-- the grid. A turn makes the room without the boxes of a group free, which are on the grid because the group is lawful; the room is in one
-- component at first (`Components.antt`). The flood finds the region of the group's position (`reached_position` in `Grouped.antt`). The boxes of a
-- group come after the boxes of earlier groups, so their ways stay when its own are noted.
use Rattle.std.proofs.Common.{◌≡◌, ℕ, ◌+◌, ◌<◌, List, [], ◌∷◌, ◌++◌, cond, length, get_or, refl, sym, ◌∙◌, ap, subst, arith}
use Rattle.std.proofs.lemmas.{List.length-drop, List.length-take}
use Rattle.std.specs.Prelude.{◌↔◌, Bool, MatchBool, false, true}
use Rattle.std.proofs.lemmas.List.{get_or_default}
use Rattle.cellset.specs.{Cell.neighbor, Cell.opposite, CellSet.Cells, CellSet.Has, CellSet.Lacks, declared.cell.Cell.Cell}
use Rattle.cellset.proofs.{Members.not_both, Truth.either}
use Rattle.certificates.specs.CellLists.{cell_no, cells_in}
use Rattle.certificates.specs.Pattern.{InPatternRegion}
use Rattle.closure.specs.{Spans.AreSpans, Spans.part, Spans.span_at, Around.IsFlooded}
use Rattle.closure.specs.{GroupRegions.AreWaysAt, GroupRegions.IsRegionAt, Groups.boxes_of, Groups.position_at, Trap.AreOff}
use Rattle.board.specs.{Board.IsWellFormed, Game.Level}
use Rattle.closure.specs.{Kept.AreKept, Kept.IsThere, Kept.KeptHas, Kept.parts_of, Kept.rows_of, declared.groups.Groups.Groups, declared.kept.Kept.Kept}
use Rattle.closure.proofs.KeptRows.{column_in, has_more, there_more}
use Rattle.closure.{specs.declared.kept.Region.Region, specs.declared.arena.Span.Span, proofs.Turns.through}
use Rattle.closure.proofs.{Grouped.boxes_on, Grouped.reached_position, Lists.each_more, Lists.length_more, Numbered.one_more, Components.room_is_one, Spans.no_span}
use Rattle.closure.proofs.group_regions.find_regions.Goals as goal

-- the boxes of a group, counted from the number of its first one
span_end : (cells : List Cell) (spans : List Span) → AreSpans (length cells) spans → (g : ℕ) → g < length spans
    → (span_at spans g).from + length (part cells (span_at spans g)) ≡ (span_at spans g).to
span_end cells spans inside g lt = grind (arith, length-take, length-drop)

span_read : (spans : List Span) (g : ℕ) (span : Span) → g < length spans → span ≡ get_or spans g span → span.from ≡ (span_at spans g).from
span_read spans g span lt read = grind (arith, get_or_default, no_span)

choice : (b : Bool) (x y : Cells) → MatchBool b (cond b x y ≡ x) (cond b x y ≡ y)
choice true x y = refl
choice false x y = refl

-- what holds for either of two sets holds for the one that was chosen
chosen_has : (P : Cells → Type 0) (b : Bool) (x y z : Cells) → MatchBool b (z ≡ x) (z ≡ y) → MatchBool b (P x) (P y) → P z
chosen_has P true x y z is has = rw is has
chosen_has P false x y z is has = rw is has

both : (A B P Q : Type 0) → A ↔ P → B ↔ Q → (A × B) ↔ (P × Q)
both A B P Q first second = (λ h. (first.0 h.0, second.0 h.1), λ h. (first.1 h.0, second.1 h.1))

-- what was found and kept says of a free cell whether it is in the region
told : (b : Bool) (free part region : Cells) (c : Cell) (K : Type 0) → MatchBool b (region ≡ free) (region ≡ part) → MatchBool b K (K ↔ Has part c) → Has free c
    → K ↔ Has region c
told true free part region c K is all here = (λ _. rw is here, λ _. all)
told false free part region c K is exact here = rw is exact

region_more : (P : ℕ → Region → Type 0) (of items : List Region) (new : Region) (n : ℕ) → length of ≡ n → items ≡ of ++ new ∷ []
    → ((k : ℕ) (r : Region) → k < n → P k (get_or of k r)) → P n new → (k : ℕ) (r : Region) → k < n + 1 → P k (get_or items k r)
region_more P of items new n count is old here k r lt =
    rw is (each_more P of new r (λ i before. old i r (omega arith)) (rw count here) k (omega arith))

-- a region that was kept before still is
still_there : (level : Level) (trap : Cells) (groups : Groups) → IsWellFormed level → (kept new : Kept) (more : List ℕ) → kept.parts ≡ parts_of level.shape
    → new.parts ≡ kept.parts → new.words.items ≡ kept.words.items ++ more → (k : ℕ) (region : Region) → IsRegionAt level trap groups kept k region
    → IsRegionAt level trap groups new k region
still_there level trap groups formed kept new more are parts grown k region was = record {
  there = there_more kept new region more parts grown was.there;
  says = λ off q in_room lacks.
      let same = has_more kept new region more parts grown was.there q (column_in level.shape kept.parts are q (formed.room q in_room).0) in
      through (same.1, same.0) (was.says off q in_room lacks);
}

none_there : (kept : Kept) (region : Region) → region.last < region.first → region.at ≡ 0 → IsThere kept region
none_there kept region none begin =
    let rows : rows_of region ≡ 0 = omega arith in
    rw (begin, rows) (omega arith)

pub loop-group-init : goal.loop-group-init
loop-group-init g c = grind arith

pub take_out-requires : goal.take_out-requires
take_out-requires g c =
    let groups = c.args.groups.now in
    let formed = c.shape.ensures.formed in
    let lt = rw (c.len-group-end.ensures ∙ groups.spans.ok.0) at c.loop-group-test.true in
    let to = sym c.loop-group.invariant.free_on in
    record {
      room = c.room_rows-room.ensures.extent ∙ to;
      on = λ q has. either has
          (λ in_room. rw to at (formed.room q (rw c.room_rows-room.ensures.members at in_room)).0)
          (λ box. rw to at (boxes_on c.args.board.now groups c.requires.lawful c.requires.groups c.loop-group.group lt _ c.boxes-boxes.ensures q box));
      whole = rw c.room_rows-room.ensures.members (room_is_one c.args.board.now formed);
    }

pub find_region-whole-requires : goal.find_region-whole-requires
find_region-whole-requires g c = grind arith

pub note_ways-requires : goal.note_ways-requires
note_ways-requires g c =
    let groups = c.args.groups.now in
    let lt = rw (c.len-group-end.ensures ∙ groups.spans.ok.0) at c.loop-group-test.true in
    let on : c.find_region-whole.new.self.free.extent ≡ c.args.board.now.shape = cc in
    record {
      boxes = λ q box. rw on (boxes_on c.args.board.now groups c.requires.lawful c.requires.groups c.loop-group.group lt _ c.boxes-boxes.ensures q box);
      region = cc;
      room = rw c.boxes-boxes.ensures (
          let cells = groups.arena.boxes.items in
          let spans = groups.spans.items in
          let inside = c.requires.groups.all.inside in
          let end = span_end cells spans inside c.loop-group.group lt in
          let from = span_read spans c.loop-group.group c.index.result.now lt c.index.ensures in
          let within = (inside.within c.loop-group.group lt).end in
          let long = c.loop-group.invariant.long in
          omega arith);
    }

pub loop-group-preserved : goal.loop-group-preserved
loop-group-preserved g c =
    let level = c.args.board.now in
    let groups = c.args.groups.now in
    let trap = c.args.trap.now.members in
    let n = c.loop-group.group in
    let inv = c.loop-group.invariant in
    let lt = subst (λ k. n < k) (c.len-group-end.ensures ∙ groups.spans.ok.0) c.loop-group-test.true in
    let found = c.find_region-whole.ensures in
    let formed = c.shape.ensures.formed in
    let free = c.take_out.new.self.free.members in
    let whole = c.find_region-whole.result in
    let part = c.find_region-whole.new.self.region.members in
    let region = cond whole free part in
    let is_free : (q : Cell) → Has free q ↔ (Has level.room q × Lacks (cells_in (boxes_of groups n)) q) = λ q.
    rw (← c.boxes-boxes.ensures, ← c.room_rows-room.ensures.members) (c.take_out.ensures.free q) in
    let chosen = choice whole free part in
    let exact : IsFlooded groups n free region = chosen_has (IsFlooded groups n free) whole _ _ region chosen found.exact in
    let position : (q : Cell) → Has region q ↔ InPatternRegion level (position_at level groups n) q = λ q.
    through (exact q) (reached_position level formed groups c.requires.groups c.requires.lawful n (Has free) is_free q) in
    let cells = groups.arena.boxes.items in
    let spans = groups.spans.items in
    let inside = c.requires.groups.all.inside in
    let from = span_read spans n c.index.result.now lt c.index.ensures in
    let ways = c.note_ways.new.ways.items in
    let noted = rw (c.boxes-boxes.ensures, from, found.same.0) at c.note_ways.ensures.noted in
    let old_kept = c.loop-group.kept in
    let new_kept = c.keep.new.kept in
    let kept = c.in_ok-keep.ensures in
    let new = c.in_ok-keep.field-0 in
    let shape : c.find_region-whole.new.self.free.extent ≡ level.shape = rw (found.same.0, c.take_out.ensures.same.0) inv.free_on in
    let are : AreKept level.shape new_kept = subst (λ e. AreKept e new_kept) shape kept.kept in
    let parts : new_kept.parts ≡ old_kept.parts = are.parts ∙ sym inv.kept.parts in
    let here : IsRegionAt level trap groups new_kept n new = record {
      there = kept.there;
      says = λ _ q in_room lacks.
          let is_open = (is_free q).1 (in_room, lacks) in
          let said = kept.exact q (rw found.same.0 is_open) (rw shape (formed.room q in_room).0) in
          through (told whole free part region q (KeptHas new_kept new q) chosen said is_open) (position q);
    } in
    record {
      free_on = kept.extent ∙ shape;
      region_on = rw (kept.region, found.same.1, c.take_out.ensures.same.1) inv.region_on;
      kept = are;
      long = c.note_ways.ensures.long ∙ inv.long;
      count = rw c.push_reserved-in-loop-group.ensures.items (length_more c.loop-group.of.items new ∙ ap (λ k. k + 1) inv.count);
      roomy = rw c.push_reserved-in-loop-group.ensures.capacity inv.roomy;
      ways = one_more (λ k. AreWaysAt level trap groups k ways) n
          (λ k before off i within.
          let end = span_end cells spans inside k (omega arith) in
          let apart = inside.apart n k lt before in
          rw (← (c.note_ways.ensures.kept ((span_at spans k).from + i) (omega arith))) at (inv.ways k before off i within))
          (λ _ i within d.
          let cell = cell_no (boxes_of groups n) i in
          through (noted i within d) (both _ _ _ _ (position (neighbor cell (opposite d))) (is_free (neighbor cell d))));
      each = region_more (IsRegionAt level trap groups new_kept) c.loop-group.of.items _ new n inv.count c.push_reserved-in-loop-group.ensures.items
          (λ k r before. still_there level trap groups formed old_kept new_kept kept.grown.0 inv.kept.parts parts kept.grown.1 k _ (inv.each k r before)) here;
    }

pub loop-group-preserved-then-is_trapped : goal.loop-group-preserved-then-is_trapped
loop-group-preserved-then-is_trapped g c =
    let level = c.args.board.now in
    let groups = c.args.groups.now in
    let trap = c.args.trap.now.members in
    let n = c.loop-group.group in
    let inv = c.loop-group.invariant in
    let met = c.if-is_trapped.ensures in
    let on : AreOff trap (boxes_of groups n) → ⊥ = λ off. not_both trap met.0 met.2 (off met.0 (rw c.boxes-boxes.ensures at met.1)) in
    let new = c.no_rows.result in
    record {
      free_on = inv.free_on;
      region_on = inv.region_on;
      kept = inv.kept;
      long = inv.long;
      count = rw c.push_reserved.ensures.items (length_more c.loop-group.of.items new ∙ ap (λ k. k + 1) inv.count);
      roomy = rw c.push_reserved.ensures.capacity inv.roomy;
      ways = one_more (λ k. AreWaysAt level trap groups k c.loop-group.ways.items) n inv.ways (λ off. absurd (on off));
      each = region_more (IsRegionAt level trap groups c.loop-group.kept) c.loop-group.of.items _ new n inv.count c.push_reserved.ensures.items inv.each
          (record { there = none_there c.loop-group.kept new c.no_rows.ensures.none c.no_rows.ensures.begin; says = λ off. absurd (on off) });
    }

pub boxes-boxes-requires : goal.boxes-boxes-requires
boxes-boxes-requires g c = grind arith

pub returns : goal.returns
returns g c =
    let groups = c.args.groups.now in
    let inv = c.loop-group.invariant in
    let past = c.loop-group-test.false in
    let within = c.loop-group.auto.group-end in
    let all = c.len-group-end.ensures ∙ groups.spans.ok.0 in
    let end : c.loop-group.group ≡ length groups.spans.items = omega arith in
    record {
      kept = inv.kept;
      long = inv.long;
      count = inv.count ∙ end;
      ways = λ k lt. inv.ways k (omega arith);
      each = λ k r lt. inv.each k r (omega arith);
    }

pub push_reserved-requires : goal.push_reserved-requires
push_reserved-requires g c = omega arith
