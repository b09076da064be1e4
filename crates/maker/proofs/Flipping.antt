-- The table of the matching while an augmenting path is flipped.
-- The loop goes back along the path, goal by goal. Each step matches the freed goal to the box that leads to it on the path, and frees the
-- former goal of this box. That goal comes earlier in the queue, so the loop ends, and the goals of earlier visits still have their boxes.
use Rattle.std.proofs.Common.{◌≡◌, ◌≢◌, ℕ, ◌+◌, ◌<◌, ◌≤◌, List, length, get_or, set, refl, sym, ◌∙◌, arith}
use Rattle.std.specs.Prelude.{Option, None, Some}
use Rattle.std.proofs.lemmas.List.{get_or-set_same, get_or-set_other}
use Rattle.cellset.specs.Shape.{Extent}
use Rattle.cellset.specs.Cell.{IsOn}
use Rattle.cellset.specs.CellSet.{Cells}
use Rattle.cellset.specs.SortedList.{index}
use Rattle.cellset.specs.declared.cell.Cell.{Cell}
use Rattle.cellset.proofs.Members.{other_false, has_insert}
use Rattle.cellset.proofs.ReadingOrder.{index_apart, below_index}
use Rattle.cellset.proofs.Truth.{either}
use Rattle.board.specs.Game.{Level}
use Rattle.maker.specs.Matching.{InReach}
use Rattle.maker.specs.Search.{Pairs, HasEntries, visit_at, cell_visited, IsTraced, AreTraced, IsFreeGoal, EndsPath, IsMatchingOf, MatchesOneMore}
use Rattle.maker.specs.declared.zones.search.Visit.{Visit}
use Rattle.maker.proofs.Flipped.{IsRematched, IsFreed, freed_start, freed_next, all_matched}

-- a table matches a goal to one box at most
pub one_match : (shape : Extent) (matching : List (Option Cell)) (g b k : Cell) → Pairs shape matching g b → Pairs shape matching g k → b ≡ k
one_match shape matching g b k p q = search

-- if a box is written at the index of a goal, the goal is paired with it, and the others are paired as before
pub table_matched : (shape : Extent) (matching : List (Option Cell)) (g k : Cell) (entry : Option Cell) → IsOn shape g → HasEntries shape matching
    → entry ≡ Some k → IsRematched (Pairs shape matching) g k (Pairs shape (set matching (index shape g) entry))
table_matched shape matching g k entry on entries is =
    let below = below_index shape g on in
    let within : index shape g < length matching = omega arith in
    let there : get_or (set matching (index shape g) entry) (index shape g) None ≡ Some k = get_or-set_same matching (index shape g) entry None within ∙ is in
    let apart : (h : Cell) → h ≢ g → IsOn shape h → index shape h ≢ index shape g = λ h ne on_h e. index_apart shape h g on_h on (other_false h g ne) e in
    record {
      here = record { on = on; entry = there };
      only = λ b pair. let e = sym pair.entry ∙ there in cc;
      was = λ h b ne pair. record {
        on = pair.on;
        entry = sym (get_or-set_other matching (index shape g) (index shape h) entry None (apart h ne pair.on)) ∙ pair.entry;
      };
      kept = λ h b ne pair. record {
        on = pair.on;
        entry = get_or-set_other matching (index shape g) (index shape h) entry None (apart h ne pair.on) ∙ pair.entry;
      };
    }

-- a bound on the flips that are left: the visits up to the last goal on the path
pub flips_left : Option ℕ → ℕ
flips_left None = 0
flips_left (Some j) = j + 1

-- the path is flipped from its end up to the freed goal: all other goals are paired, the goals of the first n visits as at first, and an
-- alternating path through the first n visits leads to the freed goal
pub record IsFlipping (level : Level) (former : List (Option Cell)) (start : Cell) (queue : List Visit) (matching : List (Option Cell))
    (freed : Visit) : Type 0 where
  pub n : ℕ
  pub within : n ≤ length queue
  pub on : IsOn level.shape freed.cell
  pub traced : IsTraced level former start queue n freed.cell freed.via
  pub apart : (i : ℕ) (b : Cell) → i < n → Pairs level.shape former (cell_visited queue i) b → cell_visited queue i ≢ freed.cell
  pub same : (i : ℕ) (b : Cell) → i < n → Pairs level.shape former (cell_visited queue i) b → Pairs level.shape matching (cell_visited queue i) b
  pub others : (matched : Cells) → IsMatchingOf level matched former → IsFreed level matched (Pairs level.shape matching) freed.cell

pub flipping_start : (level : Level) (former : List (Option Cell)) (start : Cell) (queue : List Visit) (end : Visit)
    → EndsPath level former start queue end → IsFlipping level former start queue former end
flipping_start level former start queue end is =
    let unmatched : (b : Cell) → Pairs level.shape former end.cell b → ⊥ = λ b pair. let e = sym is.free.unmatched ∙ pair.entry in cc in
    record {
      n = length queue;
      within = omega arith;
      on = is.free.on;
      traced = is.traced;
      apart = λ i b h pair e. unmatched b (rw e at pair);
      same = λ i b h pair. pair;
      others = λ matched valid. freed_start level matched (Pairs level.shape former) end.cell valid.pairs is.free.goal unmatched;
    }

module _ (level : Level) (former : List (Option Cell)) (start : Cell) (queue : List Visit) (matching : List (Option Cell)) (freed : Visit)
    (path : AreTraced level former start queue) (entries : HasEntries level.shape matching)
    (flipping : IsFlipping level former start queue matching freed) where
  -- the last goal on the path to the freed one is the goal of visit j
  traced_by : (j : ℕ) → freed.via ≡ Some j → IsTraced level former start queue flipping.n freed.cell (Some j)
  traced_by j via = grind arith

  pub visit_within : (j : ℕ) → freed.via ≡ Some j → j < length queue
  visit_within j via = grind (arith, traced_by)

  pub visit_on : (j : ℕ) → freed.via ≡ Some j → IsOn level.shape (cell_visited queue j)
  visit_on j via = path.on j (visit_within j via)

  pub flipping_next : (j : ℕ) → freed.via ≡ Some j
      → IsFlipping level former start queue (set matching (index level.shape freed.cell) (get_or matching (index level.shape (cell_visited queue j)) None))
      (visit_at queue j)
  flipping_next j via =
      let (less, k, pair, near) = traced_by j via in
      let below = visit_within j via in
      let pair_now = flipping.same j k less pair in
      let new = set matching (index level.shape freed.cell) (get_or matching (index level.shape (cell_visited queue j)) None) in
      let valid = table_matched level.shape matching freed.cell k
      (get_or matching (index level.shape (cell_visited queue j)) None) flipping.on entries pair_now.entry in
      record {
        n = j;
        within = omega arith;
        on = visit_on j via;
        traced = path.traced j below;
        apart = λ i b h pair_i. path.once i j h below;
        same = λ i b h pair_i. valid.kept (cell_visited queue i) b (flipping.apart i b (omega arith) pair_i) (flipping.same i b (omega arith) pair_i);
        others = λ matched is. freed_next level matched (Pairs level.shape matching) (Pairs level.shape new) (one_match level.shape new) freed.cell k
            (flipping.others matched is) valid near (cell_visited queue j) (flipping.apart j k less pair) pair_now;
      }

  -- fewer flips are left from the goal before
  pub flipping_falls : (j : ℕ) → freed.via ≡ Some j → flips_left (visit_at queue j).via < flips_left freed.via
  unfolding flips_left
  flipping_falls j via = grind (arith, visit_within, flips_left)

  pub flipping_end : freed.via ≡ None → MatchesOneMore level former start (set matching (index level.shape freed.cell) (Some start))
  flipping_end via matched is box lacks =
      let near : InReach level start freed.cell = rw via at flipping.traced in
      let new = set matching (index level.shape freed.cell) (Some start) in
      record {
        boxes = λ c h. either (has_insert matched start c h) (λ e. rw e box) (is.boxes c);
        pairs = all_matched level matched (Pairs level.shape matching) (Pairs level.shape new) (one_match level.shape new) freed.cell start
            (flipping.others matched is) (table_matched level.shape matching freed.cell start (Some start) flipping.on entries refl) near lacks;
      }

-- a free goal in the reach of a box can be matched to it at once
pub free_matched : (level : Level) (matching : List (Option Cell)) (start goal : Cell) → HasEntries level.shape matching → IsFreeGoal level matching goal
    → InReach level start goal → MatchesOneMore level matching start (set matching (index level.shape goal) (Some start))
free_matched level matching start goal entries free near matched is box lacks =
    let new = set matching (index level.shape goal) (Some start) in
    let unmatched : (b : Cell) → Pairs level.shape matching goal b → ⊥ = λ b pair. let e = sym free.unmatched ∙ pair.entry in cc in
    record {
      boxes = λ c h. either (has_insert matched start c h) (λ e. rw e box) (is.boxes c);
      pairs = all_matched level matched (Pairs level.shape matching) (Pairs level.shape new) (one_match level.shape new) goal start
          (freed_start level matched (Pairs level.shape matching) goal is.pairs free.goal unmatched)
          (table_matched level.shape matching goal start (Some start) free.on entries refl) near lacks;
    }
