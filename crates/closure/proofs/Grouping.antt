-- Groups as they are built, and their floods. Each line so far has a group, and each group a line. The flood of a group finds what walks
-- reach from its free seeds, whether a line of it says `*` or all list seeds.
use Rattle.std.proofs.Common.{◌≡◌, ℕ, ◌⊎◌, ◌≤◌, ◌+◌, ◌<◌, List, [], ◌∷◌, ◌++◌, length, sym, ◌∙◌, ap, inl, inr, arith}
use Rattle.std.{specs.Prelude.◌↔◌, specs.Prelude.map, specs.Prelude.slice_index, proofs.lemmas.List.get_or-map, proofs.lemmas.List.length-map}
use Rattle.std.proofs.lemmas.Bool.{cases_lt}
use Rattle.cellset.specs.{CellSet.Cells, CellSet.Has, declared.cell.Cell.Cell}
use Rattle.reach.{specs.Reached.Reached, specs.Reached.at_seed, specs.Reached.by_step, specs.Reached.WalksTo, proofs.Chains.reached_more}
use Rattle.closure.specs.{Arena.boxes_at, Arena.line_at, Around.IsFlooded, Around.IsOneComponent, Spans.AreSpans, Spans.IsWithin, Spans.part, Spans.span_at}
use Rattle.closure.specs.{Groups.AreGroups, Groups.HasSeedsFrom, Groups.HasSeedsOnly, Groups.HasStar, Groups.IsSeedOf, declared.groups.Groups.Groups}
use Rattle.closure.specs.declared.arena.{Arena.Arena, StoredLine.StoredLine}
use Rattle.closure.{specs.declared.arena.Span.Span, proofs.Grouped.on_line, proofs.Grouped.seed_among}
use Rattle.closure.proofs.{Lists.each_more, Lists.length_more, Lists.new_item, Lists.old_item, Components.reached_whole, Spans.no_span}

-- ---- one line more
module _ (arena : Arena) (j : ℕ) (lt : j < length arena.lines.items) where
  many : j < length (map (λ (line : StoredLine). line.boxes) arena.lines.items)
  many = search (length-map)

  -- the boxes of a line are one of the spans of the arena
  span_of_line : span_at (map (λ (line : StoredLine). line.boxes) arena.lines.items) j ≡ (line_at arena j).boxes
  span_of_line = grind (arith, get_or-map)

  pub line_within : IsWithin (length arena.boxes.items) (line_at arena j).boxes
  line_within = grind (arith, span_of_line, many)

-- the boxes of a line come after the boxes of the lines before it
lines_apart : (arena : Arena) (i j : ℕ) → i < j → j < length arena.lines.items → (line_at arena i).boxes.to ≤ (line_at arena j).boxes.from
lines_apart arena i j less lt =
    rw (span_of_line arena j lt, span_of_line arena i (omega arith)) at (arena.within.boxes_in.apart j i (many arena j lt) less)

module _ (arena : Arena) (of : List ℕ) (spans : List Span) (n g : ℕ) (so_far : AreGroups arena of spans n) where
  -- A line more gets a group, and the groups so far stay.
  one_more : (longer : List Span) → length spans ≤ length longer → AreSpans (length arena.boxes.items) longer
      → ((k : ℕ) → k < length spans → span_at longer k ≡ span_at spans k)
      → ((h : ℕ) → h < length longer → (h < length spans) ⊎ ((h ≡ g) × (span_at longer h ≡ (line_at arena n).boxes))) → g < length longer
      → part arena.boxes.items (span_at longer g) ≡ boxes_at arena n → AreGroups arena (of ++ g ∷ []) longer (n + 1)
  one_more longer grown inside keep which low here =
      let was = so_far.long in
      let IsOf : ℕ → ℕ → Type 0 = λ j k. (k < length longer) × (part arena.boxes.items (span_at longer k) ≡ boxes_at arena j) in
      let each : (j : ℕ) → j < length of + 1 → IsOf j (slice_index (of ++ g ∷ []) j) = each_more IsOf of g 0
      (λ j lt.
      let into = so_far.into j (omega arith) in
      (omega arith, ap (part arena.boxes.items) (keep (slice_index of j) into) ∙ so_far.same j (omega arith)))
      (rw was (low, here)) in
      record {
        long = length_more of g ∙ ap (λ k. k + 1) was;
        inside = inside;
        first = λ h lt. elim (which h lt) [
          | inl before ↦
              let at = so_far.first h before in
              let less = at.1 in
              (at.0, omega arith, old_item of g at.0 0 (omega arith) ∙ at.2, keep h before ∙ at.3)
          | inr new ↦ (n, omega arith, new_item of g n 0 (sym was) ∙ sym new.0, new.1)
        ];
        into = λ j lt. (each j (omega arith)).0;
        same = λ j lt. (each j (omega arith)).1;
      }

  -- The line comes into a group that is there.
  pub line_more : g < length spans → part arena.boxes.items (span_at spans g) ≡ boxes_at arena n → AreGroups arena (of ++ g ∷ []) spans (n + 1)
  line_more lt same = grind (arith, one_more)

  -- The line gets a new group.
  pub group_more : n < length arena.lines.items → g ≡ length spans → AreGroups arena (of ++ g ∷ []) (spans ++ (line_at arena n).boxes ∷ []) (n + 1)
  group_more lt is =
      let new = (line_at arena n).boxes in
      let longer = length_more spans new in
      let kept : (k : ℕ) → k < length spans → span_at (spans ++ new ∷ []) k ≡ span_at spans k = λ k low. old_item spans new k no_span low in
      let fresh : (h : ℕ) → h ≡ length spans → span_at (spans ++ new ∷ []) h ≡ new = λ h e. new_item spans new h no_span e in
      let IsAfter : ℕ → Span → Type 0 = λ h s. (k : ℕ) → k < h → (span_at (spans ++ new ∷ []) k).to ≤ s.from in
      one_more (spans ++ new ∷ []) (omega arith)
      (record {
        within = λ h low. each_more (λ _. IsWithin (length arena.boxes.items)) spans new no_span so_far.inside.within (line_within arena n lt) h (omega arith);
        apart = λ h k low. each_more IsAfter spans new no_span
            (λ i less k before. rw (kept k (omega arith)) (so_far.inside.apart i k less before))
            (λ k before.
            let at = so_far.first k before in
            rw (sym (kept k before ∙ at.3)) at (lines_apart arena at.0 n at.1 lt))
            h (omega arith) k;
      })
      kept
      (λ h low. elim (cases_lt h (length spans)) [
        | inl less ↦ inl less
        | inr past ↦ let last : h ≡ length spans = omega arith in inr (last ∙ sym is, fresh h last)
      ])
      (omega arith) (ap (part arena.boxes.items) (fresh g is))

-- ---- the region of a group
module _ (groups : Groups) (g : ℕ) (free : Cells) where
  abbrev Seed : Cell → Type 0
  Seed c = Has free c × IsSeedOf groups g c

  walked_free : (c : Cell) → Reached (WalksTo (Has free)) Seed c → Has free c
  walked_free c (at_seed seed) = seed.0
  walked_free c (by_step b before step) = step.free

  -- A flood that reaches each free cell finds all that is free.
  all_flooded : ((c : Cell) → Has free c → Reached (WalksTo (Has free)) Seed c) → IsFlooded groups g free free
  all_flooded reached c = (reached c, walked_free c)

  -- If a line says `*`, each free cell is a seed.
  pub flooded_star : HasStar groups g → IsFlooded groups g free free
  flooded_star star = all_flooded (λ c has. at_seed (has, on_line star (rw star.fact tt)))

  -- If the free cells are in one component, a flood from a seed reaches all of them.
  pub flooded_whole : IsOneComponent (Has free) → (x : Cell) → Seed x → IsFlooded groups g free free
  flooded_whole whole x seed = search (all_flooded, reached_whole)

  -- If no line says `*`, the flood begins with the free seeds.
  pub flooded_seeds : (region begins : Cells) → HasSeedsOnly (Has free) (Has begins) groups g → HasSeedsFrom (Has free) (Has begins) groups g 0
      → ((c : Cell) → Has region c ↔ Reached (WalksTo (Has free)) (Has begins) c) → IsFlooded groups g free region
  flooded_seeds region begins only found exact c = grind (arith, reached_more, seed_among)
