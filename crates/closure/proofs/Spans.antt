-- Spans of a vector of cells that grows. A span within the old cells has the same part of the new ones. So the lines of an arena stay the
-- lines that they were, and so does what the arena keeps of them; one line more may have all that was added.
use Rattle.std.proofs.Common.{◌≡◌, Bool, true, false, if◌then◌else◌, ℕ, ◌≤◌, refl, List, [], ◌∷◌, ◌++◌, length, get_or, ◌∙◌, ap, subst, inl, inr, arith}
use Rattle.std.specs.{Prelude.Option, Prelude.None, Prelude.Some, Prelude.map, Prelude.option_map, Prelude.slice_range, List.All, List.Contains}
use Rattle.std.proofs.lemmas.{Bool.cases_lt, Option.none-some}
use Rattle.std.proofs.lemmas.List.{append-nil, drop-append-le, drop_at, get_or-map, length-append, length-drop, length-map, map_push, take-append-le, take_all}
use Rattle.std.proofs.lemmas.List.Elements.{All-contains_itself, All-head, All-tail, Contains-push_cases}
use Rattle.cellset.specs.declared.cell.Cell.{Cell}
use Rattle.answers.specs.{declared.pattern.Coord.Coord, Body.PatternLine}
use Rattle.certificates.specs.CellLists.{cell_of}
use Rattle.closure.specs.{Arena.coord_of, Arena.line_in, Spans.AreSpans}
use Rattle.closure.specs.{Spans.AreWithin, Spans.IsWithin, Spans.part, declared.arena.Span.Span}
use Rattle.closure.{specs.declared.arena.StoredLine.StoredLine, proofs.Lists.length_more, proofs.Lists.new_item, proofs.Lists.old_item}

abbrev pub no_span : Span
no_span = record { from = 0; to = 0 }

-- A list that has grown is the old list with more cells at its end, or with none.
abbrev pub IsGrown : List Cell → List Cell → Type 0
IsGrown was now = (more : List Cell) × (now ≡ was ++ more)

pub as_it_was : (cells : List Cell) → IsGrown cells cells
as_it_was cells = grind (arith, append-nil)

grown_longer : (was now : List Cell) → IsGrown was now → length was ≤ length now
grown_longer was now grown = grind (arith, length-append)

-- a part of a vector is the same in a longer one
range_kept : (xs ys : List Cell) (a b : ℕ) → a ≤ b → b ≤ length xs → slice_range (xs ++ ys) a b ≡ slice_range xs a b
range_kept xs ys a b up within = grind (arith, length-drop, drop-append-le, take-append-le)

part_kept : (was now : List Cell) → IsGrown was now → (span : Span) → IsWithin (length was) span → part now span ≡ part was span
part_kept was now grown span within = grind (arith, range_kept)

-- what is added to a vector is its last part
part_last : (xs ys now : List Cell) → now ≡ xs ++ ys → slice_range now (length xs) (length now) ≡ ys
part_last xs ys now is = grind (arith, length-append, drop_at, take_all)

within_more : (n m : ℕ) → n ≤ m → (span : Span) → IsWithin n span → IsWithin m span
within_more n m le span within = grind arith

spans_kept : (n m : ℕ) → n ≤ m → (spans : List Span) → AreSpans n spans → AreSpans m spans
spans_kept n m le spans are = grind (arith, within_more)

-- Spans may get one more, which begins where the vector ended.
spans_push : (n m : ℕ) → n ≤ m → (spans : List Span) → AreSpans n spans → AreSpans m (spans ++ (record { from = n; to = m }) ∷ [])
spans_push n m le spans are = grind (arith, length_more, cases_lt, old_item, within_more, new_item)

-- the boxes of a line lie within all boxes
pub boxes_within : (boxes seeds : List Cell) (lines : List StoredLine) → AreWithin boxes seeds lines → (line : StoredLine) → Contains lines line
    → IsWithin (length boxes) line.boxes
boxes_within boxes seeds lines are line (j, lt, is) =
    let long = length-map lines (λ l. l.boxes) in
    subst (IsWithin (length boxes)) (get_or-map (λ l. l.boxes) lines j line no_span lt ∙ ap (λ l. l.boxes) is) (are.boxes_in.within j (omega arith))

same_lines : (f g : StoredLine → PatternLine) (lines : List StoredLine) → All (λ line. f line ≡ g line) lines → map f lines ≡ map g lines
same_lines f g [] all = refl
same_lines f g (l ∷ ls) all =
    ap (λ x. x ∷ map f ls) (All-head (λ line. f line ≡ g line) l ls all) ∙
    ap (λ rest. g l ∷ rest) (same_lines f g ls (All-tail (λ line. f line ≡ g line) l ls all))

seeds_kept : (was now : List Cell) → IsGrown was now → (seeds : Option Span) → ((span : Span) → seeds ≡ Some span → IsWithin (length was) span)
    → option_map (λ span. map coord_of (part now span)) seeds ≡ option_map (λ span. map coord_of (part was span)) seeds
seeds_kept was now grown None within = refl
seeds_kept was now grown (Some span) within = ap (λ cells. Some (map coord_of cells)) (part_kept was now grown span (within span refl))

module _ (was_boxes boxes was_seeds seeds : List Cell) (more_boxes : IsGrown was_boxes boxes) (more_seeds : IsGrown was_seeds seeds)
    (lines : List StoredLine) (are : AreWithin was_boxes was_seeds lines) where
  pub kept_within : AreWithin boxes seeds lines
  kept_within = record {
    boxes_in = spans_kept _ _ (grown_longer was_boxes boxes more_boxes) _ are.boxes_in;
    seeds_in = λ line span listed is. within_more _ _ (grown_longer was_seeds seeds more_seeds) span (are.seeds_in line span listed is);
  }

  -- The lines stay the same pattern lines if the vectors grow.
  pub kept_lines : map (line_in boxes seeds) lines ≡ map (line_in was_boxes was_seeds) lines
  kept_lines = same_lines _ _ lines (λ j d lt.
      let line = get_or lines j d in
      let listed = All-contains_itself lines j d lt in
      let of_boxes = part_kept was_boxes boxes more_boxes line.boxes (boxes_within was_boxes was_seeds lines are line listed) in
      let of_seeds = seeds_kept was_seeds seeds more_seeds line.seeds (λ span is. are.seeds_in line span listed is) in
      λ i. record { line = line.number; boxes = map coord_of (of_boxes i); seeds = of_seeds i })

-- The coordinate of the cell of a coordinate is that coordinate.
there_and_back : (coords : List Coord) → map coord_of (map cell_of coords) ≡ coords
there_and_back [] = refl
there_and_back (c ∷ cs) = ap (λ l. c ∷ l) (there_and_back cs)

-- The cells of coordinates that are added to a vector have those coordinates.
part_named : (was now : List Cell) (coords : List Coord) → now ≡ was ++ map cell_of coords → map coord_of (slice_range now (length was) (length now)) ≡ coords
part_named was now coords is = grind (arith, part_last, there_and_back)

-- The vector of seeds grew by the seeds that a line lists, and the span is theirs. `*` adds none.
pub record AreSaid (was seeds : List Cell) (span : Option Span) (said : Option (List Coord)) : Type 0 where
  pub grown : IsGrown was seeds
  pub within : (s : Span) → span ≡ Some s → IsWithin (length seeds) s
  pub named : option_map (λ s. map coord_of (part seeds s)) span ≡ said

pub none_said : (seeds : List Cell) → AreSaid seeds seeds None None
none_said seeds = grind (arith, as_it_was, none-some)

pub some_said : (was seeds : List Cell) (coords : List Coord) → seeds ≡ was ++ map cell_of coords
    → AreSaid was seeds (Some (record { from = length was; to = length seeds })) (Some coords)
some_said was seeds coords is = grind (arith, grown_longer, part_named)

module _ (was_boxes boxes was_seeds seeds : List Cell) (lines : List StoredLine) (are : AreWithin was_boxes was_seeds lines) (coords : List Coord)
    (added : boxes ≡ was_boxes ++ map cell_of coords) (span : Option Span) (said : Option (List Coord)) (are_said : AreSaid was_seeds seeds span said)
    (number : ℕ) where
  abbrev new_line : StoredLine
  new_line = record { number = number; boxes = record { from = length was_boxes; to = length boxes }; seeds = span }

  old_within : AreWithin boxes seeds lines
  old_within = search (kept_within)

  pub pushed_within : (ok : Bool) → AreWithin boxes seeds (if ok then lines ++ new_line ∷ [] else lines)
  pushed_within true = record {
    boxes_in = rw (map_push (λ l. l.boxes) lines new_line) (spans_push _ _ (grown_longer was_boxes boxes (map cell_of coords, added)) _ are.boxes_in);
    seeds_in = λ l s listed is. elim (Contains-push_cases lines new_line l listed) [
      | inl old ↦ old_within.seeds_in l s old is
      | inr new ↦ are_said.within s (ap (λ x. x.seeds) new ∙ is)
    ];
  }
  pushed_within false = old_within

  pub pushed_lines : map (line_in boxes seeds) (lines ++ new_line ∷ [])
      ≡ map (line_in was_boxes was_seeds) lines ++ (record { line = number; boxes = coords; seeds = said }) ∷ []
  pushed_lines = grind (arith, part_named, map_push, kept_lines)
