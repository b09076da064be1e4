-- Why lines of text can be skipped by the bytes with which they begin.
-- A line that doesn't begin with a character of boards is text. So the lines before the first line that begins with one are text, and if no
-- line begins with one, all lines are text. If a text is passed up to a place, and what comes next is passed further, all that was passed is text.
use Rattle.std.proofs.Common.{◌≡◌, ℕ, ◌≤◌, List, [], ◌∷◌, ◌++◌, length, take, drop, sym, ◌∙◌, ap, arith, length-append}
use Rattle.std.specs.Prelude.{All}
use Rattle.std.proofs.lemmas.List.{append-nil, drop_all, nil_from_length}
use Rattle.std.proofs.lemmas.List.Elements.{All-nil, All-cons, All-append}
use Rattle.lines.specs.declared.search.Start.{Start}
use Rattle.lines.specs.Lines.{IsFirstLine, lines_in}
use Rattle.lines.specs.Starts.{AllBeginOutside, IsFirstStart}
use Rattle.lines.proofs.Cuts.{cut_lines_in, cut_more, first_alone, first_lines, lines_in-nil}
use Rattle.board.specs.Characters.{is_board_character}
use Rattle.board.specs.Levels.{EndsRun, IsText}
use Rattle.board.specs.Cut.{IsPassed}
use Rattle.board.proofs.LevelRuns.{both_lines}

all_text : (lines : List (List ℕ)) → AllBeginOutside is_board_character lines → All IsText lines
all_text [] h = All-nil IsText
all_text (line ∷ lines) h = grind (arith, all_text lines h.1)

pub passed_front : (text : List ℕ) (start : Start) → IsFirstStart is_board_character text start → IsPassed text (drop start.at text)
passed_front text start first = record { passed = take start.at text; cut = first.cut; text_passed = all_text (lines_in (take start.at text)) first.others }

pub passed_all : (text : List ℕ) → AllBeginOutside is_board_character (lines_in text) → IsPassed text (drop (length text) text)
passed_all text others =
    let none = drop_all (length text) text (omega arith) in
    record {
      passed = text;
      cut = rw none (record { parts = sym (append-nil text); whole = λ some. absurd (omega arith) });
      text_passed = all_text (lines_in text) others;
    }

pub passed_within : (text after : List ℕ) → IsPassed text after → length after ≤ length text
passed_within text after p = omega (arith, ap length p.cut.parts, length-append p.passed after)

-- What is passed further is passed.
passed_more : (text rest after : List ℕ) → IsPassed text rest → IsPassed rest after → IsPassed text after
passed_more text rest after p q = record {
  passed = p.passed ++ q.passed;
  cut = cut_more text p.passed rest q.passed after p.cut q.cut;
  text_passed = rw (both_lines text p.passed rest q.passed after p.cut q.cut) (All-append IsText (lines_in p.passed) (lines_in q.passed) p.text_passed q.text_passed);
}

-- A line of text is passed, and then more of them.
pub passed_line : (text rest line after further : List ℕ) → IsPassed text rest → EndsRun (lines_in rest) → IsFirstLine rest line after → IsPassed after further
    → IsPassed text further
passed_line text rest line after further p ends first q =
    let is : IsText line = rw (first_lines rest line after first) at ends in
    let one : IsPassed rest after = record {
      passed = first.ended;
      cut = first.cut;
      text_passed = rw (first_alone rest line after first) (All-cons IsText line [] is (All-nil IsText));
    } in
    passed_more text after further (passed_more text rest after p one) q

-- A text that is passed to its end is text.
pub passed_whole : (text rest : List ℕ) → IsPassed text rest → length rest ≡ 0 → All IsText (lines_in text)
passed_whole text rest p none =
    let nothing : lines_in rest ≡ [] = ap lines_in (nil_from_length rest none) ∙ lines_in-nil in
    rw (cut_lines_in text p.passed rest p.cut, nothing, append-nil (lines_in p.passed)) p.text_passed
