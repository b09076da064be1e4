-- The kept lines of a text that is cut between its lines.
-- Each line has its number, so the kept lines of a text are the kept lines of the front and then the kept lines of the rest. If all lines but
-- comments are looked for, a line that is skipped is a comment, and isn't kept. If only lines are looked for that begin as `end` does, a line
-- that is skipped isn't `end`. So a text is cut at its first `end`: every line before it was skipped, or was looked at and is another line.
use Rattle.std.proofs.Common.{◌≡◌, ◌≢◌, ℕ, ◌+◌, ◌-◌, ◌<◌, ◌≤◌, ◌==◌, Bool, true, false, not, cond, List, [], ◌∷◌, ◌++◌, length, take, refl, sym, ap, ◌∙◌, arith, length-append}
use Rattle.std.specs.Prelude.{codes, filter}
use Rattle.std.proofs.Math.Seq.{take-append_seam}
use Rattle.std.proofs.lemmas.List.{length-map, map-append}
use Rattle.std.proofs.lemmas.List.Elements.{filter-append}
use Rattle.bstr.specs.Text.{lines_of, without_terminator}
use Rattle.bstr.proofs.lemmas.LineLemmas.{lines-nil}
use Rattle.lines.specs.Lines.{IsFirstLine, IsLineCut, lines_in}
use Rattle.lines.specs.Starts.{AllBeginOutside}
use Rattle.lines.proofs.Cuts.{cut_lines, cut_more, cut_none, first_alone, first_lines, first_shorter, lines_in-nil, more_lines}
use Rattle.answers.specs.declared.line.Left.{Left}
use Rattle.answers.specs.declared.line.NumberedLine.{NumberedLine}
use Rattle.answers.specs.Grammar.{Line, NoneEnds, is_kept, numbered}
use Rattle.answers.specs.Held.{AreNone, HasPassed, IsCutAtEnd, IsFound, IsNextKept, IsSkipped, kept_after, kept_in, line_count, said_line}

-- ---- kept lines

-- The lines without the first, if that isn't kept.
abbrev pub kept_or_not : Line → List Line → List Line
kept_or_not l rest = cond (is_kept l) (l ∷ rest) rest

pub numbered-append : (n : ℕ) (xs ys : List (List ℕ)) → numbered n (xs ++ ys) ≡ numbered n xs ++ numbered (n + length xs) ys
numbered-append n [] ys = grind arith
numbered-append n (x ∷ xs) ys = grind (arith, numbered-append (n + 1) xs ys)

kept_both : (n : ℕ) {m : ℕ} (all front rest : List ℕ) → lines_of all ≡ lines_of front ++ lines_of rest → m ≡ n + length (lines_of front)
    → kept_after n all ≡ kept_after n front ++ kept_after m rest
kept_both n all front rest both is = grind (arith, length-map, map-append, numbered-append, filter-append)

pub count_both : {text front rest : List ℕ} → IsLineCut text front rest → length (lines_in text) ≡ length (lines_of front) + length (lines_in rest)
count_both {text} {front} {rest} cut =
    omega (arith, length-map (lines_of text) without_terminator, length-map (lines_of rest) without_terminator, ap length (cut_lines text front rest cut), length-append (lines_of front) (lines_of rest))

-- ---- lines that are skipped

-- Comments aren't kept.
pub comments_left : (n : ℕ) (ls : List (List ℕ)) → AllBeginOutside (λ b. not (b == 59)) ls → filter is_kept (numbered n ls) ≡ []
comments_left n [] h = refl
comments_left n (l ∷ ls) h = grind (arith, comments_left (n + 1) ls h.1)

end_or_not : (t : Bool) (l : Line) (rest : List Line) → l.text ≢ codes "end" → NoneEnds rest → NoneEnds (cond t (l ∷ rest) rest)
end_or_not true l rest other h = (other, h)
end_or_not false l rest other h = h

-- Lines that don't begin as `end` does aren't `end`.
none_ends : (n : ℕ) (ls : List (List ℕ)) → AllBeginOutside (λ b. b == 101) ls → NoneEnds (filter is_kept (numbered n ls))
none_ends n [] h = tt
none_ends n (l ∷ ls) h = grind (arith, none_ends (n + 1) ls h.1)

pub NoneEnds-append : (xs ys : List Line) → NoneEnds xs → NoneEnds ys → NoneEnds (xs ++ ys)
NoneEnds-append [] ys h k = k
NoneEnds-append (x ∷ xs) ys h k = search (NoneEnds-append xs ys h.1 k)

module _ (class : ℕ → Bool) (lines left : Left) (s : IsSkipped class lines left) where
  pub skipped_count : line_count left ≡ line_count lines
  skipped_count = grind (arith, count_both)

  pub skipped_no_longer : length left.text.now ≤ length lines.text.now
  skipped_no_longer = omega (arith, ap length s.cut.parts, length-append s.front left.text.now)

pub comments_skipped : {lines left : Left} → IsSkipped (λ b. not (b == 59)) lines left → kept_in lines ≡ kept_in left
comments_skipped {lines} {left} s =
    kept_both lines.before lines.text.now s.front left.text.now (cut_lines lines.text.now s.front left.text.now s.cut) s.number
    ∙ ap (λ ls. ls ++ kept_in left) (comments_left (lines.before + 1) (lines_in s.front) s.others)

pub all_comments : (lines : Left) → AllBeginOutside (λ b. not (b == 59)) (lines_in lines.text.now) → kept_in lines ≡ []
all_comments lines others = search (comments_left)

module _ (class : ℕ → Bool) (lines found : Left) (line : NumberedLine) (rest : Left) (f : IsFound class lines found line rest) where
  pub found_count : line_count rest ≡ line_count lines
  found_count = omega (arith, ap length (first_lines found.text.now line.text.now rest.text.now f.first), skipped_count class lines found f.skipped)

  pub found_shorter : length rest.text.now < length lines.text.now
  found_shorter = omega (arith, first_shorter found.text.now line.text.now rest.text.now f.first, skipped_no_longer class lines found f.skipped)

  found_kept : kept_in found ≡ kept_or_not (said_line line) (kept_in rest)
  found_kept =
      ap (λ ls. filter is_kept (numbered (found.before + 1) ls)) (first_lines found.text.now line.text.now rest.text.now f.first)
      ∙ ap (λ n. kept_or_not (record { number = n; text = line.text.now }) (kept_after (found.before + 1) rest.text.now)) (sym f.number)
      ∙ ap (λ n. kept_or_not (said_line line) (kept_after n rest.text.now)) (sym f.before)

  pub line_kept : is_kept (said_line line) ≡ true → kept_in found ≡ said_line line ∷ kept_in rest
  line_kept e = search (found_kept)

  pub line_left : is_kept (said_line line) ≡ false → kept_in found ≡ kept_in rest
  line_left e = search (found_kept)

-- ---- lines that are passed

pub passed_none : (P : List Line → Type 0) (lines : Left) → P [] → HasPassed P lines lines
passed_none P lines none = record {
  passed = [];
  cut = cut_none lines.text.now;
  number = grind (arith, lines-nil);
  kept = rw lines_in-nil none;
}

module _ (P : List Line → Type 0) (lines left : Left) (h : HasPassed P lines left) where
  pub passed_count : line_count left ≡ line_count lines
  passed_count = grind (arith, count_both)

  pub passed_no_longer : length left.text.now ≤ length lines.text.now
  passed_no_longer = omega (arith, ap length h.cut.parts, length-append h.passed left.text.now)

  pub passed_kept : kept_in lines ≡ kept_after lines.before h.passed ++ kept_in left
  passed_kept = search (kept_both, cut_lines)

  passed_more : {rest : Left} {piece : List ℕ} → ((xs ys : List Line) → P xs → P ys → P (xs ++ ys)) → IsLineCut left.text.now piece rest.text.now
      → rest.before ≡ left.before + length (lines_of piece) → P (kept_after left.before piece) → HasPassed P lines rest
  passed_more {rest} {piece} both cut number more_kept =
      let more = more_lines lines.text.now h.passed left.text.now piece rest.text.now h.cut cut in
      let before = h.number in
      record {
        passed = h.passed ++ piece;
        cut = cut_more lines.text.now h.passed left.text.now piece rest.text.now h.cut cut;
        number = omega (arith, ap length more, length-append (lines_of h.passed) (lines_of piece));
        kept = rw (kept_both lines.before (h.passed ++ piece) h.passed piece more before) (both (kept_after lines.before h.passed) (kept_after left.before piece) h.kept more_kept);
      }

one_line : (n : ℕ) (text line rest : List ℕ) (first : IsFirstLine text line rest)
    → kept_after n first.ended ≡ kept_or_not (record { number = n + 1; text = line }) []
one_line n text line rest first = ap (λ ls. filter is_kept (numbered (n + 1) ls)) (first_alone text line rest first)

-- ---- lines before the first that is kept

AreNone-append : (xs ys : List Line) → AreNone xs → AreNone ys → AreNone (xs ++ ys)
AreNone-append xs ys none others = grind arith

module _ (lines left : Left) (h : HasPassed AreNone lines left) where
  pub kept_left : kept_in lines ≡ kept_in left
  kept_left = passed_kept AreNone lines left h ∙ ap (λ ls. ls ++ kept_in left) h.kept

  pub comments_passed : {found : Left} → IsSkipped (λ b. not (b == 59)) left found → HasPassed AreNone lines found
  comments_passed s = passed_more AreNone lines left h AreNone-append s.cut s.number (comments_left (left.before + 1) (lines_in s.front) s.others)

  pub other_passed : (line : NumberedLine) (rest : Left) → IsFirstLine left.text.now line.text.now rest.text.now → rest.before ≡ left.before + 1
      → is_kept (said_line line) ≡ false → HasPassed AreNone lines rest
  other_passed line rest first before other =
      passed_more AreNone lines left h AreNone-append first.cut (before ∙ ap (λ ls. left.before + length ls) (sym first.alone))
      (one_line left.before left.text.now line.text.now rest.text.now first
      ∙ ap (λ t. cond t (record { number = left.before + 1; text = line.text.now } ∷ []) []) other)

  pub kept_here : (line : NumberedLine) (rest : Left) → IsFirstLine left.text.now line.text.now rest.text.now → rest.before ≡ left.before + 1
      → IsNextKept lines.before lines.text.now left.text.now line.text.now rest.text.now rest.before
  kept_here line rest first before = record {
    skipped = h.passed;
    cut = h.cut;
    comments = h.kept;
    first = first;
    number = let number = h.number in omega (arith, before, length-map (lines_of h.passed) without_terminator);
  }

-- ---- lines before `end`

module _ (lines left : Left) (h : HasPassed NoneEnds lines left) where
  pub skipped_passed : {found : Left} → IsSkipped (λ b. b == 101) left found → HasPassed NoneEnds lines found
  skipped_passed s = passed_more NoneEnds lines left h NoneEnds-append s.cut s.number (none_ends (left.before + 1) (lines_in s.front) s.others)

  pub line_passed : {line : List ℕ} {rest : Left} → IsFirstLine left.text.now line rest.text.now → rest.before ≡ left.before + 1 → line ≢ codes "end"
      → HasPassed NoneEnds lines rest
  line_passed {line} {rest} first before other =
      let l : Line = record { number = left.before + 1; text = line } in
      passed_more NoneEnds lines left h NoneEnds-append first.cut (before ∙ ap (λ ls. left.before + length ls) (sym first.alone))
      (rw (one_line left.before left.text.now line rest.text.now first) (end_or_not (is_kept l) l [] other tt))

  -- No line begins as `end` does.
  pub passed_out : AllBeginOutside (λ b. b == 101) (lines_in left.text.now) → NoneEnds (kept_in lines)
  passed_out others =
      rw (passed_kept NoneEnds lines left h)
      (NoneEnds-append (kept_after lines.before h.passed) (kept_in left) h.kept (none_ends (left.before + 1) (lines_in left.text.now) others))

  -- The line that was found is `end`.
  pub cut_here : {class : ℕ → Bool} {from : Left} {line : NumberedLine} {rest : Left} → IsFound class from left line rest → line.text.now ≡ codes "end"
      → IsCutAtEnd lines (take (length lines.text.now - length left.text.now) lines.text.now) left rest
  cut_here {class} {from} {line} {rest} f is =
      let size : length lines.text.now - length left.text.now ≡ length h.passed = omega (arith, ap length h.cut.parts, length-append h.passed left.text.now) in
      let front : take (length lines.text.now - length left.text.now) lines.text.now ≡ h.passed =
      ap (λ k. take k lines.text.now) size ∙ ap (take (length h.passed)) h.cut.parts ∙ take-append_seam h.passed left.text.now in
      let kept_end : is_kept (said_line line) ≡ true = ap (λ t. is_kept (record { number = line.number; text = t })) is in
      let more = ap length (first_lines left.text.now line.text.now rest.text.now f.first) in
      let count = passed_count NoneEnds lines left h in
      let number = h.number in
      rw front (record {
        cut = h.cut;
        first = rw (← is) f.first;
        number = omega (arith, f.before, length-map (lines_of h.passed) without_terminator);
        last = said_line line;
        kept =
            passed_kept NoneEnds lines left h
            ∙ ap (λ ls. kept_after lines.before h.passed ++ ls) (line_kept class from left line rest f kept_end);
        goes_on = h.kept;
        ends = is;
        count = omega (arith, more);
        within = omega (arith, more);
        shorter = omega (arith, first_shorter left.text.now line.text.now rest.text.now f.first, passed_no_longer NoneEnds lines left h);
      })

-- Lines before the first `end` after comments are the comments and those lines.
module _ (lines left : Left) (h : HasPassed AreNone lines left) (body : List ℕ) (from rest : Left) (c : IsCutAtEnd left body from rest) where
  pub cut_past : IsLineCut lines.text.now (h.passed ++ body) from.text.now
  cut_past = cut_more lines.text.now h.passed left.text.now body from.text.now h.cut c.cut

  both_lines : lines_of (h.passed ++ body) ≡ lines_of h.passed ++ lines_of body
  both_lines = more_lines lines.text.now h.passed left.text.now body from.text.now h.cut c.cut

  pub kept_past : kept_after left.before body ≡ kept_after lines.before (h.passed ++ body)
  kept_past = sym (kept_both lines.before (h.passed ++ body) h.passed body both_lines h.number ∙ ap (λ ls. ls ++ kept_after left.before body) h.kept)

  pub number_past : rest.before ≡ lines.before + length (lines_in (h.passed ++ body)) + 1
  number_past =
      let number = c.number in
      let before = h.number in
      omega (
        arith,
        ap length both_lines,
        length-append (lines_of h.passed) (lines_of body),
        length-map (lines_of (h.passed ++ body)) without_terminator,
        length-map (lines_of body) without_terminator,
      )
