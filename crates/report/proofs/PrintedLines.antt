-- What the bytes of a report claim is true.
-- No word of a report has a line feed or a carriage return in it, so the lines of its bytes are the lines of its levels and
-- the total. A line of level n has one text after `level n `, and its first word fixes the kind of the status. So the line
-- of level n has the words of the n-th status, and what that status means is true.
use Rattle.std.proofs.Common.{◌≡◌, ◌+◌, ◌/◌, ◌%◌, ℕ, zero, suc, Bool, true, false, cond, ◌==◌, ◌&&◌, List, [], ◌∷◌, ◌++◌, Option, Some, length, refl, sym, ◌∙◌, ap, ap₂, arith, inl, inr, append_assoc, codes}
use Rattle.std.specs.Prelude.{decimal, map, slice_index}
use Rattle.std.specs.List.{AllByRecursion, flat_map, list_all, slice_get}
use Rattle.std.specs.Fmt.{digit_glyph, digits, digits_onto}
use Rattle.std.proofs.lemmas.List.{append-nil, append_cancel_left, length-map}
use Rattle.std.proofs.lemmas.Bool.Decides.{nat_tests}
use Rattle.board.specs.Lines.{lines_in}
use Rattle.board.specs.Words.{board_words}
use Rattle.board.specs.declared.reading.BoardFault.{BoardFault}
use Rattle.board.specs.declared.reading.BoardFault.TheVariants as board_fault
use Rattle.cellset.specs.Words.{dir_word}
use Rattle.cellset.specs.declared.cell.Cell.{Cell}
use Rattle.cellset.specs.declared.dir.Dir.{Dir}
use Rattle.cellset.specs.declared.dir.Dir.TheVariants.{L, U, R, D}
use Rattle.play.specs.Words.{move_word}
use Rattle.play.specs.declared.fault.MoveWhy.{MoveWhy}
use Rattle.play.specs.declared.fault.MoveWhy.TheVariants as move_why
use Rattle.play.specs.declared.fault.ReplayFault.{ReplayFault}
use Rattle.play.specs.declared.fault.ReplayFault.TheVariants as replay_fault
use Rattle.play.specs.declared.tally.Tally.{Tally}
use Rattle.answers.specs.Body.{Body, Entry}
use Rattle.answers.specs.Canonical.{ended}
use Rattle.answers.specs.Words.{bad_line_word}
use Rattle.answers.specs.declared.record.BadLineWhy.{BadLineWhy}
use Rattle.answers.specs.declared.record.BadLineWhy.TheVariants as bad_line
use Rattle.answers.proofs.PlainLines.{ArePlain, IsPlainLine, is_plain, lines_again, plain-append}
use Rattle.closure.specs.Words.{line_word, zone_word}
use Rattle.closure.specs.declared.fault.LineWhy.{LineWhy}
use Rattle.closure.specs.declared.fault.LineWhy.TheVariants as line_why
use Rattle.closure.specs.declared.fault.CheckFault.{CheckFault}
use Rattle.closure.specs.declared.fault.CheckFault.TheVariants as check_fault
use Rattle.closure.specs.declared.fault.ZoneLineWhy.{ZoneLineWhy}
use Rattle.closure.specs.declared.fault.ZoneLineWhy.TheVariants as zone_why
use Rattle.closure.specs.declared.fault.ZoneFault.{ZoneFault}
use Rattle.closure.specs.declared.fault.ZoneFault.TheVariants as zone_fault
use Rattle.report.specs.Answer.{answer_to}
use Rattle.report.specs.Means.{IsMissing, IsSolvedBy, Means}
use Rattle.report.specs.Printed.{AreOfAKind, AreTrue, HasWords}
use Rattle.report.specs.Report.{AllMean}
use Rattle.report.specs.Status.{IsFirstFaultOf}
use Rattle.report.specs.Summary.{summary_of}
use Rattle.report.specs.Unsolvable.{IsUnsolvable}
use Rattle.report.specs.Words.{Text, line_of, lines_from, patterns_words, cell_words, refusal_words, report_text, solution_words, solved_words, total_line, words_of, zone_words}
use Rattle.report.specs.declared.status.Refusal.{Refusal}
use Rattle.report.specs.declared.status.Refusal.TheVariants.{Board, BadLine, Solution, Patterns, Zone}
use Rattle.report.specs.declared.status.Status.{Status}
use Rattle.report.specs.declared.status.Status.TheVariants.{Solved, Unsolvable, UnsolvableZone, Refused, Missing}
use Rattle.report.specs.declared.summary.Summary.{Summary}
use Rattle.report.proofs.Reports.{each_at, each_long}
use Rattle.report.proofs.Totals.{bare_total, total_is, words_at}

-- ---- the words are plain

record IsPlain (text : Text) : Type 0 where
  plain : ArePlain text

-- two plain texts, one after the other, are plain
infixl 10 ◌&◌
◌&◌ : {a b : Text} → IsPlain a → IsPlain b → IsPlain (a ++ b)
◌&◌ {a = a} {b = b} p q = search (plain-append)

word : (text : Text) → ArePlain text → IsPlain text
word text h = record { plain = h }

plain_glyph : (d : ℕ) → is_plain (digit_glyph false d) ≡ true
plain_glyph d = grind (arith, nat_tests)

onto_plain : (k n : ℕ) (acc : Text) → ArePlain acc → ArePlain (digits_onto k 10 false n acc)
onto_plain zero n acc p = p
onto_plain (suc k) n acc p =
    let digit = digit_glyph false (n % 10) in
    let more : ArePlain (digit ∷ acc) = ap (λ t. t && list_all is_plain acc) (plain_glyph (n % 10)) ∙ p in
    either (n / 10 == 0) _ _ more (onto_plain k (n / 10) _ more)
  where
    either : (b : Bool) (xs ys : Text) → ArePlain xs → ArePlain ys → ArePlain (cond b xs ys)
    either true xs ys p q = p
    either false xs ys p q = q

number : (n : ℕ) → IsPlain (decimal n)
unfolding digits
number n = search (onto_plain)

board_word : (why : BoardFault) → IsPlain (board_words why)
board_word board_fault.Size = word (codes "size") refl
board_word board_fault.Player = word (codes "player") refl
board_word board_fault.Box = word (codes "box") refl
board_word board_fault.Goals = word (codes "goals") refl
board_word board_fault.Open = word (codes "open") refl
board_word board_fault.Memory = word [] refl

plain_move : (why : MoveWhy) → IsPlain (move_word why)
plain_move move_why.Letter = word (codes "letter") refl
plain_move move_why.Wall = word (codes "wall") refl
plain_move move_why.Blocked = word (codes "blocked") refl
plain_move move_why.Case = word (codes "case") refl

plain_bad_line : (why : BadLineWhy) → IsPlain (bad_line_word why)
plain_bad_line bad_line.Syntax = word (codes "syntax") refl
plain_bad_line bad_line.Count = word (codes "count") refl

plain_line : (why : LineWhy) → IsPlain (line_word why)
plain_line line_why.Board = word (codes "board") refl
plain_line line_why.Wall = word (codes "wall") refl
plain_line line_why.Seed = word (codes "seed") refl
plain_line line_why.Goals = word (codes "goals") refl

plain_zone_line : (why : ZoneLineWhy) → IsPlain (zone_word why)
plain_zone_line zone_why.Board = word (codes "board") refl
plain_zone_line zone_why.Wall = word (codes "wall") refl

plain_dir : (d : Dir) → IsPlain (dir_word d)
plain_dir L = word (codes "l") refl
plain_dir U = word (codes "u") refl
plain_dir R = word (codes "r") refl
plain_dir D = word (codes "d") refl

plain_place : (c : Cell) (d : Dir) → IsPlain (cell_words c d)
plain_place c d = number c.column & word (codes ",") refl & number c.row & word (codes " ") refl & plain_dir d

plain_solution : (fault : ReplayFault) → IsPlain (solution_words fault)
plain_solution (replay_fault.Move n why) = word (codes "move ") refl & number n & word (codes " ") refl & plain_move why
plain_solution (replay_fault.Unsolved boxes) = grind (arith, word, number)
plain_solution replay_fault.Memory = word [] refl

plain_patterns : (fault : CheckFault) → IsPlain (patterns_words fault)
plain_patterns (check_fault.Line line why) = word (codes "line ") refl & number line & word (codes " ") refl & plain_line why
plain_patterns check_fault.Start = word (codes "start") refl
plain_patterns (check_fault.Push line player dir) = word (codes "line ") refl & number line & word (codes " push ") refl & plain_place player dir
plain_patterns check_fault.Memory = word [] refl

plain_zone : (fault : ZoneFault) → IsPlain (zone_words fault)
plain_zone (zone_fault.Line line why) = word (codes "line ") refl & number line & word (codes " ") refl & plain_zone_line why
plain_zone (zone_fault.Leak line cell dir) = word (codes "line ") refl & number line & word (codes " leak ") refl & plain_place cell dir
plain_zone (zone_fault.Fits line) = word (codes "line ") refl & number line & word (codes " fits") refl
plain_zone zone_fault.Memory = word [] refl

plain_refusal : (why : Refusal) → IsPlain (refusal_words why)
plain_refusal (Board why) = grind (arith, word, board_word)
plain_refusal (BadLine line why) = word (codes "line ") refl & number line & word (codes " ") refl & plain_bad_line why
plain_refusal (Solution fault) = plain_solution fault
plain_refusal (Patterns fault) = plain_patterns fault
plain_refusal (Zone fault) = plain_zone fault

plain_words : (status : Status) → IsPlain (words_of status)
plain_words (Solved t) =
    word (codes "solved moves ") refl & number t.moves & word (codes " pushes ") refl & number t.pushes & word (codes " changes ") refl & number t.changes
plain_words (Unsolvable k) = grind (arith, word, number)
plain_words (UnsolvableZone k) = grind (arith, word, number)
plain_words (Refused why) = grind (arith, word, plain_refusal)
plain_words Missing = word (codes "missing") refl

-- ---- the lines of a report
-- the line of a level, without its LF
abbrev bare_line : ℕ → Status → Text
bare_line n status = codes "level " ++ decimal n ++ codes " " ++ words_of status

-- the lines of the levels from this number on, each without its LF, and then a last line
abbrev bare_lines : ℕ → List Status → Text → List Text
bare_lines n [] last = last ∷ []
bare_lines n (status ∷ statuses) last = bare_line n status ∷ bare_lines (n + 1) statuses last

plain_level : (n : ℕ) (status : Status) → IsPlainLine (bare_line n status)
plain_level n status = record {
  some = omega arith;
  plain = (word (codes "level ") refl & number n & word (codes " ") refl & plain_words status).plain;
}

plain_total : (s : Summary) → IsPlainLine (bare_total s)
plain_total s = record {
  some = omega arith;
  plain = (word (codes "total ") refl & number s.levels & word (codes " solved ") refl & number s.solved & word (codes " unsolvable ") refl
      & number s.unsolvable
      & word (codes " refused ") refl & number s.refused & word (codes " missing ") refl & number s.missing).plain;
}

all_plain : (n : ℕ) (statuses : List Status) (s : Summary) → AllByRecursion IsPlainLine (bare_lines n statuses (bare_total s))
all_plain n [] s = (plain_total s, tt)
all_plain n (status ∷ statuses) s = (plain_level n status, all_plain (n + 1) statuses s)

text_of : (n : ℕ) (statuses : List Status) (s : Summary) → lines_from n statuses ++ total_line s ≡ flat_map ended (bare_lines n statuses (bare_total s))
text_of n [] s = search (append-nil)
text_of n (status ∷ statuses) s =
    append_assoc (line_of n status) (lines_from (n + 1) statuses) (total_line s) ∙ ap (λ l. ended (bare_line n status) ++ l) (text_of (n + 1) statuses s)

line_at : (n i : ℕ) (statuses : List Status) (last : Text) (status : Status) → slice_get statuses i ≡ Some status
    → slice_get (bare_lines n statuses last) i ≡ Some (bare_line (i + n) status)
line_at n i [] last status there = absurd cc
line_at n zero (s ∷ statuses) last status there = grind (arith, number)
line_at n (suc i) (s ∷ statuses) last status there =
    let number : i + (n + 1) ≡ suc i + n = omega arith in
    line_at (n + 1) i statuses last status there ∙ ap (λ m. Some (bare_line m status)) number

lines_are : (statuses : List Status) → lines_in (report_text statuses) ≡ bare_lines 1 statuses (bare_total (summary_of statuses))
lines_are statuses = search (text_of, lines_again, all_plain)

last_line : (n : ℕ) (statuses : List Status) (last : Text) → slice_get (bare_lines n statuses last) (length statuses) ≡ Some last
last_line n [] last = refl
last_line n (status ∷ statuses) last = last_line (n + 1) statuses last

count_lines : (n : ℕ) (statuses : List Status) (last : Text) → length (bare_lines n statuses last) ≡ length statuses + 1
count_lines n [] last = refl
count_lines n (status ∷ statuses) last =
    let rest : length (bare_lines (n + 1) statuses last) ≡ length statuses + 1 = count_lines (n + 1) statuses last in
    omega arith

-- the n-th line is the line of level n
pub line_is : (statuses : List Status) (before : ℕ) (status : Status) → slice_get statuses before ≡ Some status
    → HasWords (report_text statuses) before (words_of status)
line_is statuses before status there = search (lines_are, line_at)

-- ---- its words
some_same : {X : Type 0} (a b : X) → Some a ≡ Some b → a ≡ b
some_same a b e = cc

-- a line has one text after its number
one_text : (text : List ℕ) (before : ℕ) (a b : Text) → HasWords text before a → HasWords text before b → a ≡ b
one_text text before a b p q = grind (arith, some_same, append_cancel_left)

-- if two reports are the same text, each line has the same words in both
same_lines : (n : ℕ) (a b : List Status) (s t : Summary) → bare_lines n a (bare_total s) ≡ bare_lines n b (bare_total t) → map words_of a ≡ map words_of b
same_lines n [] [] s t e = refl
same_lines n [] (y ∷ ys) s t e = grind arith
same_lines n (x ∷ xs) [] s t e = grind arith
same_lines n (x ∷ xs) (y ∷ ys) s t e =
    let first : bare_line n x ≡ bare_line n y = cc in
    let rest : bare_lines (n + 1) xs (bare_total s) ≡ bare_lines (n + 1) ys (bare_total t) = cc in
    ap₂ (λ (w : Text) (ws : List Text). w ∷ ws) (append_cancel_left (codes "level " ++ decimal n ++ codes " ") (words_of x) (words_of y) first)
    (same_lines (n + 1) xs ys s t rest)

pub same_words : (a b : List Status) → report_text a ≡ report_text b → map words_of a ≡ map words_of b
same_words a b e = same_lines 1 a b (summary_of a) (summary_of b) (sym (lines_are a) ∙ ap lines_in e ∙ lines_are b)

-- the first byte of the words fixes the kind of the status
kinds : ℕ → Bool × Bool × Bool × Bool
kinds byte = (byte == 115, byte == 117, byte == 114, byte == 109)

-- two texts with different first bytes differ
other_first : (a b : Text) → a ≡ b → slice_index a 0 ≡ slice_index b 0
other_first a b e = search

module _ (rows : List (List ℕ)) (answer : Option Body) (words : Text) where
  of_unsolvable : (status : Status) → Means rows answer status → words_of status ≡ codes "unsolvable " ++ words → IsUnsolvable rows
  of_unsolvable (Solved t) means e = grind (arith, other_first)
  of_unsolvable (Unsolvable k) means e = means
  of_unsolvable (UnsolvableZone k) means e = means
  of_unsolvable (Refused why) means e = grind (arith, other_first)
  of_unsolvable Missing means e = grind (arith, other_first)

  of_solved : (status : Status) → Means rows answer status → words_of status ≡ codes "solved " ++ words
      → (tally : Tally) × (codes "solved " ++ words ≡ solved_words tally) × IsSolvedBy rows answer tally
  of_solved (Solved t) means e = (t, sym e, means)
  of_solved (Unsolvable k) means e = grind (arith, other_first)
  of_solved (UnsolvableZone k) means e = grind (arith, other_first)
  of_solved (Refused why) means e = grind (arith, other_first)
  of_solved Missing means e = grind (arith, other_first)

  of_refused : (status : Status) → Means rows answer status → words_of status ≡ codes "refused " ++ words → (fault : Refusal) × (words ≡ refusal_words fault)
      × IsFirstFaultOf rows answer fault
  of_refused (Solved t) means e = grind (arith, other_first)
  of_refused (Unsolvable k) means e = grind (arith, other_first)
  of_refused (UnsolvableZone k) means e = grind (arith, other_first)
  of_refused (Refused why) means e = grind (arith, append_cancel_left)
  of_refused Missing means e = grind (arith, other_first)

  of_missing : (status : Status) → Means rows answer status → words_of status ≡ codes "missing" → IsMissing rows answer
  of_missing (Solved t) means e = grind (arith, other_first)
  of_missing (Unsolvable k) means e = grind (arith, other_first)
  of_missing (UnsolvableZone k) means e = grind (arith, other_first)
  of_missing (Refused why) means e = grind (arith, other_first)
  of_missing Missing means e = means

kind_of : (status : Status) → AreOfAKind (words_of status)
kind_of (Solved t) = inl (_, refl)
kind_of (Unsolvable k) = inr (inl (_, refl))
kind_of (UnsolvableZone k) = inr (inl (_, refl))
kind_of (Refused why) = inr (inr (inl (_, refl)))
kind_of Missing = inr (inr (inr refl))

-- ---- the lines are true
module _ (levels : List (List (List ℕ))) (entries : List Entry) (statuses : List Status) (mean : AllMean levels entries statuses) where
  here : (before : ℕ) (rows : List (List ℕ)) → slice_get levels before ≡ Some rows
      → (status : Status) × HasWords (report_text statuses) before (words_of status) × Means rows (answer_to (before + 1) entries) status
  here before rows there = grind (arith, each_at, line_is)

  true_here : AreTrue levels entries (report_text statuses)
  true_here = record {
    count = ap length (lines_are statuses) ∙ count_lines 1 statuses _ ∙ ap (λ n. n + 1) (each_long Means 1 levels entries statuses mean);
    each = λ before rows there. let (status, line, means) = here before rows there in (words_of status, line, kind_of status);
    solved = λ before rows words there has.
        let (status, line, means) = here before rows there in
        of_solved rows (answer_to (before + 1) entries) words status means (one_text (report_text statuses) before _ _ line has);
    unsolvable = λ before rows words there has.
        let (status, line, means) = here before rows there in
        of_unsolvable rows (answer_to (before + 1) entries) words status means (one_text (report_text statuses) before _ _ line has);
    refused = λ before rows words there has.
        let (status, line, means) = here before rows there in
        of_refused rows (answer_to (before + 1) entries) words status means (one_text (report_text statuses) before _ _ line has);
    missing = λ before rows there has.
        let (status, line, means) = here before rows there in
        of_missing rows (answer_to (before + 1) entries) [] status means (one_text (report_text statuses) before _ _ line has);
    total =
        let same : length levels ≡ length statuses = sym (each_long Means 1 levels entries statuses mean) in (
          map words_of statuses,
          length-map statuses words_of ∙ sym same,
          λ before own there. let (status, at, is) = words_at statuses before own there in rw (← is) (line_is statuses before status at),
          rw (same, lines_are statuses, last_line 1 statuses _, total_is statuses) refl,
        );
  }

  pub true_lines : (text : Text) → text ≡ report_text statuses → AreTrue levels entries text
  true_lines text is = grind (arith, true_here)
