-- The levels of a text are found one after the other. So the invariant is about whatever spans the rest may have: those found, followed by
-- these, are spans of the whole text. At the end the rest has no levels and no spans.
use Rattle.std.proofs.Common.{◌≡◌, ℕ, ◌+◌, ◌≤◌, List, [], ◌∷◌, ◌++◌, length, refl, ap, arith, length-append, length-drop, append_assoc}
use Rattle.std.specs.Prelude.{All}
use Rattle.std.proofs.lemmas.List.{append-nil}
use Rattle.lines.specs.Lines.{lines_in}
use Rattle.board.specs.Levels.{AreLevelsOf, IsNextLevel, IsText}
use Rattle.board.specs.Lines.{without_mark}
use Rattle.board.proofs.LevelRuns.{next_shorter, next_within, with_next}
use Rattle.sokoaudit_c.specs.Outcome.{Holds}
use Rattle.sokoaudit_c.specs.Spans.{AreSpansOf, HasSpans}
use Rattle.sokoaudit_c.specs.declared.spans.Span.{Span}
use Rattle.sokoaudit_c.proofs.Written.{none_yet}

-- The levels of the spans are those of the lines.
levels_of_spans : (total : ℕ) (bytes : List ℕ) (spans : List Span) (levels : List (List (List ℕ))) → AreSpansOf total bytes spans levels
    → AreLevelsOf levels (lines_in bytes)
levels_of_spans total bytes [] [] text = text
levels_of_spans total bytes (span ∷ spans) (rows ∷ levels) (after, is, others) =
    with_next bytes is.from rows after is.next levels (levels_of_spans total after spans levels others)
levels_of_spans total bytes [] (rows ∷ levels) bad = absurd bad
levels_of_spans total bytes (span ∷ spans) [] bad = absurd bad

-- The spans of the levels before the rest are written.
pub record AreSpansSoFar (text rest : List ℕ) (old new : List Span) (count : ℕ) : Type 0 where
  pub levels : List (List (List ℕ))
  pub spans : List Span
  pub number : count ≡ length levels
  pub same : length spans ≡ length levels
  pub written : Holds old new spans
  pub few : count + length rest ≤ length text
  pub so_far : (more : List Span) (others : List (List (List ℕ))) → AreSpansOf (length text) rest more others
      → AreSpansOf (length text) (without_mark text) (spans ++ more) (levels ++ others)

mark_within : (text : List ℕ) → length (without_mark text) ≤ length text
mark_within text = grind (arith, length-drop)

pub spans_none : (text rest : List ℕ) (old : List Span) → rest ≡ without_mark text → AreSpansSoFar text rest old old 0
spans_none text rest old is = record {
  levels = [];
  spans = [];
  number = refl;
  same = refl;
  written = none_yet old;
  few = let within = mark_within text in omega (arith, ap length is);
  so_far = λ more others are. rw is at are;
}

pub spans_more : (text rest from : List ℕ) (rows : List (List ℕ)) (after : List ℕ) (old new next : List Span) (count : ℕ) (span : Span)
    (so_far : AreSpansSoFar text rest old new count) → IsNextLevel rest from rows after → span.at + length from ≡ length text
    → span.end + length after ≡ length text → Holds old next (so_far.spans ++ span ∷ []) → AreSpansSoFar text after old next (count + 1)
spans_more text rest from rows after old new next count span so_far level at end_at holds = record {
  levels = so_far.levels ++ rows ∷ [];
  spans = so_far.spans ++ span ∷ [];
  number = let is = so_far.number in omega (arith, length-append so_far.levels (rows ∷ []));
  same = let is = so_far.same in omega (arith, length-append so_far.levels (rows ∷ []), length-append so_far.spans (span ∷ []));
  written = holds;
  few = let few = so_far.few in omega (arith, next_shorter rest from rows after level, next_within rest from rows after level);
  so_far = λ more others are.
      rw (append_assoc so_far.spans (span ∷ []) more, append_assoc so_far.levels (rows ∷ []) others)
      (so_far.so_far (span ∷ more) (rows ∷ others) (after, record { from = from; next = level; at = at; end_at = end_at }, are));
}

pub spans_all : (text rest : List ℕ) (old new : List Span) (count : ℕ) → AreSpansSoFar text rest old new count → All IsText (lines_in rest)
    → HasSpans text old new count
spans_all text rest old new count so_far none =
    let are : AreSpansOf (length text) (without_mark text) so_far.spans so_far.levels =
    rw (append-nil so_far.spans, append-nil so_far.levels) at (so_far.so_far [] [] none) in
    record {
      levels = so_far.levels;
      spans = so_far.spans;
      levels_are = levels_of_spans (length text) (without_mark text) so_far.spans so_far.levels are;
      spans_are = are;
      number = so_far.number;
      written = so_far.written;
    }
