-- The levels of a text, run by run.
-- The board lines that a text begins with are taken one by one, and their number and the length of the longest are kept. The run is as long as
-- it can be, because a line of text ends it or nothing follows. So if only text is passed before it, it is the first level. Each list of lines
-- has a list of levels, by recursion from its end: a board line opens a run or goes on with the run that follows it. There is only one such
-- list: the first run begins at the first board line and ends at the first line of text after that.
use Rattle.std.proofs.Common.{◌≡◌, ℕ, ◌+◌, ◌<◌, ◌≤◌, List, [], ◌∷◌, ◌++◌, length, map, max, take, refl, sym, ◌∙◌, ap, ⊎_elim, arith, length-append, append_assoc}
use Rattle.std.specs.Prelude.{All, get_or}
use Rattle.std.proofs.Math.Seq.{take-append_seam}
use Rattle.std.proofs.lemmas.Bool.{cases_Bool, false≢true}
use Rattle.std.proofs.lemmas.List.{map-append, nil_from_length}
use Rattle.std.proofs.lemmas.List.Elements.{All-nil, All-cons, All-head, All-tail, All-append, All-push}
use Rattle.bstr.specs.Text.{lines_of, without_terminator}
use Rattle.lines.specs.Lines.{IsFirstLine, IsLineCut, lines_in}
use Rattle.lines.proofs.Cuts.{cut_lines_in, cut_more, cut_none, first_alone, first_shorter, lines_in-nil, more_lines}
use Rattle.board.specs.Levels.{is_board_line, IsBoardLine, IsText, IsRun, EndsRun, AreLevelsOf, IsNextLevel}
use Rattle.board.specs.Rows.{width_of}
use Rattle.board.specs.Cut.{IsPassed, IsRunCut}

-- ---- the run that a text begins with

-- The text is cut after board lines, and these have this width and this height.
pub record IsRunSoFar (text rest : List ℕ) (width height : ℕ) : Type 0 where
  pub run : List ℕ
  pub cut : IsLineCut text run rest
  pub board : All IsBoardLine (lines_in run)
  pub width_is : width ≡ width_of (lines_in run)
  pub height_is : height ≡ length (lines_in run)
  pub few : height + length rest ≤ length text

pub run_none : (text : List ℕ) → IsRunSoFar text text 0 0
run_none text = record {
  run = [];
  cut = cut_none text;
  board = rw lines_in-nil (All-nil IsBoardLine);
  width_is = ap width_of (sym lines_in-nil);
  height_is = ap length (sym lines_in-nil);
  few = omega arith;
}

width_push : (rows : List (List ℕ)) (row : List ℕ) → width_of (rows ++ row ∷ []) ≡ max (length row) (width_of rows)
width_push [] row = refl
width_push (r ∷ rows) row = grind (arith, width_push rows row)

pub both_lines : (text front rest piece left : List ℕ) → IsLineCut text front rest → IsLineCut rest piece left → lines_in (front ++ piece) ≡ lines_in front ++ lines_in piece
both_lines text front rest piece left cut next =
    ap (map without_terminator) (more_lines text front rest piece left cut next) ∙ map-append without_terminator (lines_of front) (lines_of piece)

module _ (text rest : List ℕ) (width height : ℕ) (so_far : IsRunSoFar text rest width height) where
  -- One more board line makes the run so far longer.
  pub run_more : (row after : List ℕ) → IsFirstLine rest row after → IsBoardLine row → IsRunSoFar text after (max (length row) width) (height + 1)
  run_more row after first is =
      let rows = lines_in so_far.run in
      let lines : lines_in (so_far.run ++ first.ended) ≡ rows ++ row ∷ [] =
      both_lines text so_far.run rest first.ended after so_far.cut first.cut ∙ ap (λ l. rows ++ l) (first_alone rest row after first) in
      record {
        run = so_far.run ++ first.ended;
        cut = cut_more text so_far.run rest first.ended after so_far.cut first.cut;
        board = rw lines (All-push IsBoardLine rows row so_far.board is);
        width_is = ap (max (length row)) so_far.width_is ∙ sym (width_push rows row) ∙ ap width_of (sym lines);
        height_is = ap (λ n. n + 1) so_far.height_is ∙ sym (length-append rows (row ∷ [])) ∙ ap length (sym lines);
        few = omega (arith, so_far.few, first_shorter rest row after first);
      }

  -- The run is as long as it can be if no board line follows.
  pub run_cut : EndsRun (lines_in rest) → IsRunCut text width height rest
  run_cut ends = record {
    run = so_far.run;
    cut = so_far.cut;
    board = so_far.board;
    longest = ends;
    width_is = so_far.width_is;
    height_is = so_far.height_is;
  }

-- Lines of which the first is text begin with no run.
pub text_next : (lines : List (List ℕ)) → IsText (get_or lines 0 []) → EndsRun lines
text_next [] is = tt
text_next (line ∷ lines) is = is

-- ---- the first level

module _ (text : List ℕ) (width height : ℕ) (after : List ℕ) (cut : IsRunCut text width height after) where
  pub rows_are : take height (lines_in text) ≡ lines_in cut.run
  rows_are =
      ap (λ n. take n (lines_in text)) cut.height_is ∙ ap (take (length (lines_in cut.run))) (cut_lines_in text cut.run after cut.cut)
      ∙ take-append_seam (lines_in cut.run) (lines_in after)

  pub is_run : 0 < height → IsRun (take height (lines_in text))
  is_run some = rw rows_are (record { some = omega (arith, cut.height_is); board = cut.board })

  -- The run is the first level of a text that has only text before it.
  pub is_next : (all : List ℕ) → IsPassed all text → 0 < height → IsNextLevel all text (take height (lines_in text)) after
  is_next all passed some = record {
    before = passed.passed;
    level = cut.run;
    begins = passed.cut;
    ends = cut.cut;
    text_before = passed.text_passed;
    rows_are = rows_are;
    run = is_run some;
    longest = cut.longest;
  }

  -- If there is no run, a line of text comes first.
  pub no_run_here : height ≡ 0 → EndsRun (lines_in text)
  no_run_here none =
      let nothing : lines_in cut.run ≡ [] = nil_from_length (lines_in cut.run) (sym cut.height_is ∙ none) in
      rw (cut_lines_in text cut.run after cut.cut, nothing) cut.longest

module _ (text from : List ℕ) (rows : List (List ℕ)) (after : List ℕ) (next : IsNextLevel text from rows after) where
  -- The levels of a text are its first one and those of what comes after it.
  pub with_next : (levels : List (List (List ℕ))) → AreLevelsOf levels (lines_in after) → AreLevelsOf (rows ∷ levels) (lines_in text)
  with_next levels are = (
    lines_in after,
    record {
      before = lines_in next.before;
      whole =
          cut_lines_in text next.before from next.begins
          ∙ ap (λ l. lines_in next.before ++ l) (cut_lines_in from next.level after next.ends ∙ ap (λ l. l ++ lines_in after) (sym next.rows_are));
      text = next.text_before;
      run = next.run;
      longest = next.longest;
    },
    are,
  )

  pub next_within : length from ≤ length text
  next_within = omega (arith, ap length next.begins.parts, length-append next.before from)

  pub next_shorter : length after < length from
  next_shorter = some_bytes next.level next.ends.parts (rw next.rows_are at next.run.some)
    where
      some_bytes : (level : List ℕ) → from ≡ level ++ after → 0 < length (lines_in level) → length after < length from
      some_bytes [] parts some = absurd (omega (arith, ap length lines_in-nil))
      some_bytes (b ∷ level) parts some = omega (arith, ap length parts, length-append (b ∷ level) after)

-- lines of text in front of other lines don't change their levels
after_text : (before lines : List (List ℕ)) (levels : List (List (List ℕ))) → All IsText before → AreLevelsOf levels lines
    → AreLevelsOf levels (before ++ lines)
after_text before lines [] text all = All-append IsText before lines text all
after_text before lines (rows ∷ levels) text (after, first, others) = (
  after,
  record {
    before = before ++ first.before;
    whole = ap (λ l. before ++ l) first.whole ∙ sym (append_assoc before first.before (rows ++ after));
    text = All-append IsText before first.before text first.text;
    run = first.run;
    longest = first.longest;
  },
  others,
)

-- a run is one level more in front of lines that don't go on with it
after_run : (rows lines : List (List ℕ)) (levels : List (List (List ℕ))) → IsRun rows → EndsRun lines → AreLevelsOf levels lines
    → AreLevelsOf (rows ∷ levels) (rows ++ lines)
after_run rows lines levels run ends are = grind arith

-- ---- each list of lines has its levels
one_run : (line : List ℕ) → IsBoardLine line → IsRun (line ∷ [])
one_run line board = grind arith

ends_at_text : (lines : List (List ℕ)) → All IsText lines → EndsRun lines
ends_at_text [] text = tt
ends_at_text (line ∷ lines) text = All-head IsText line lines text

-- a board line in front of other lines opens a run, or goes on with the run that follows it
with_board_line : (line : List ℕ) (lines : List (List ℕ)) (levels : List (List (List ℕ))) → IsBoardLine line → AreLevelsOf levels lines
    → (all : List (List (List ℕ))) × AreLevelsOf all (line ∷ lines)
with_board_line line lines [] board are = ((line ∷ []) ∷ [], after_run (line ∷ []) lines [] (one_run line board) (ends_at_text lines are) are)
with_board_line line lines (rows ∷ levels) board (after, first, others) = by_before first.before first.whole first.text
  where
    by_before : (before : List (List ℕ)) → lines ≡ before ++ (rows ++ after) → All IsText before → (all : List (List (List ℕ))) × AreLevelsOf all (line ∷ lines)
    by_before [] whole text = (
      (line ∷ rows) ∷ levels,
      (
        after,
        record {
          before = [];
          whole = ap (λ l. line ∷ l) whole;
          text = All-nil IsText;
          run = record { some = omega arith; board = All-cons IsBoardLine line rows board first.run.board };
          longest = first.longest;
        },
        others,
      ),
    )
    by_before (t ∷ before) whole text = (
      (line ∷ []) ∷ rows ∷ levels,
      after_run (line ∷ []) lines (rows ∷ levels) (one_run line board) (rw whole (All-head IsText t before text)) (after, first, others),
    )

with_line : (line : List ℕ) (lines : List (List ℕ)) (levels : List (List (List ℕ))) → AreLevelsOf levels lines
    → (all : List (List (List ℕ))) × AreLevelsOf all (line ∷ lines)
with_line line lines levels are = ⊎_elim
    (λ board. with_board_line line lines levels board are)
    (λ text. (levels, after_text (line ∷ []) lines levels (All-cons IsText line [] text (All-nil IsText)) are)) (cases_Bool (is_board_line line))

pub some_levels : (lines : List (List ℕ)) → (levels : List (List (List ℕ))) × AreLevelsOf levels lines
some_levels [] = ([], All-nil IsText)
some_levels (line ∷ lines) = let rest = some_levels lines in with_line line lines rest.0 rest.1

-- ---- and has them once
clash : {G : Type 0} (line : List ℕ) → IsBoardLine line → IsText line → G
clash line board text = grind (arith, false≢true)

same_run : (rows rows' after after' : List (List ℕ)) → rows ++ after ≡ rows' ++ after' → All IsBoardLine rows → All IsBoardLine rows' → EndsRun after
    → EndsRun after' → (rows ≡ rows') × (after ≡ after')
same_run [] [] after after' e board board' ends ends' = (refl, e)
same_run [] (r ∷ rows') after after' e board board' ends ends' = clash r (All-head IsBoardLine r rows' board') (rw e at ends)
same_run (r ∷ rows) [] after after' e board board' ends ends' = clash r (All-head IsBoardLine r rows board) (rw (← e) at ends')
same_run (r ∷ rows) (r' ∷ rows') after after' e board board' ends ends' =
    let tails : rows ++ after ≡ rows' ++ after' = cc in
    grind (arith, same_run rows rows' after after' tails (All-tail IsBoardLine r rows board) (All-tail IsBoardLine r' rows' board') ends ends')

same_first : (before before' rows rows' after after' : List (List ℕ)) → before ++ (rows ++ after) ≡ before' ++ (rows' ++ after') → All IsText before
    → All IsText before' → IsRun rows → IsRun rows' → EndsRun after → EndsRun after' → (rows ≡ rows') × (after ≡ after')
same_first [] [] rows rows' after after' e text text' run run' ends ends' = grind (arith, same_run)
same_first [] (t ∷ before') [] rows' after after' e text text' run run' ends ends' = grind arith
same_first [] (t ∷ before') (r ∷ rows) rows' after after' e text text' run run' ends ends' =
    let heads : r ≡ t = cc in
    clash r (All-head IsBoardLine r rows run.board) (rw heads (All-head IsText t before' text'))
same_first (t ∷ before) [] rows [] after after' e text text' run run' ends ends' = grind arith
same_first (t ∷ before) [] rows (r ∷ rows') after after' e text text' run run' ends ends' =
    let heads : t ≡ r = cc in
    clash r (All-head IsBoardLine r rows' run'.board) (rw heads at (All-head IsText t before text))
same_first (t ∷ before) (t' ∷ before') rows rows' after after' e text text' run run' ends ends' =
    let tails : before ++ (rows ++ after) ≡ before' ++ (rows' ++ after') = cc in
    same_first before before' rows rows' after after' tails (All-tail IsText t before text) (All-tail IsText t' before' text') run run' ends ends'

-- text alone has no run
no_run : {G : Type 0} (before rows after : List (List ℕ)) → All IsText (before ++ (rows ++ after)) → IsRun rows → G
no_run [] [] after text run = grind arith
no_run [] (r ∷ rows) after text run = clash r (All-head IsBoardLine r rows run.board) (All-head IsText r (rows ++ after) text)
no_run (t ∷ before) rows after text run = no_run before rows after (All-tail IsText t (before ++ (rows ++ after)) text) run

-- two lists of the levels of some lines are equal
pub one_list : (levels others : List (List (List ℕ))) (lines : List (List ℕ)) → AreLevelsOf levels lines → AreLevelsOf others lines → levels ≡ others
one_list [] [] lines are are' = refl
one_list [] (rows ∷ others) lines text (after, first, rest) = no_run first.before rows after (rw first.whole at text) first.run
one_list (rows ∷ levels) [] lines (after, first, rest) text = no_run first.before rows after (rw first.whole at text) first.run
one_list (rows ∷ levels) (rows' ∷ others) lines (after, first, rest) (after', first', rest') =
    let same = same_first first.before first'.before rows rows' after after'
    (sym first.whole ∙ first'.whole) first.text first'.text first.run first'.run first.longest first'.longest in
    grind (arith, one_list levels others after rest (rw same.1 rest'))
