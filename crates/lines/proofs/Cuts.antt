-- Texts that are cut between two of their lines.
-- Bytes that end with a line feed are whole lines, whatever follows them, and so are two such texts, one after the other. So the lines of
-- a text that is cut are the lines of the front and then the lines of the rest, and a further cut of the rest is a cut of the text. The
-- first line of a text ends with the first line feed, or it is the whole text. In both cases the text is cut there.
use Rattle.std.proofs.Common.{◌≡◌, ◌≢◌, ℕ, ◌+◌, ◌-◌, ◌<◌, ◌≤◌, List, [], ◌∷◌, ◌++◌, length, map, take, drop, slice_index, refl, sym, ap, ◌∙◌, arith, inr, append_assoc, length-append, length-take-le, take-append-drop, take_all, get_or-take}
use Rattle.std.proofs.lemmas.Bool.{cond-false, ne_eqb}
use Rattle.std.proofs.Math.Bool.{and-false}
use Rattle.std.proofs.lemmas.List.{append-nil, drop_all, length-map, map-append}
use Rattle.bstr.specs.Text.{lines_of, without_terminator}
use Rattle.bstr.proofs.lemmas.LineLemmas.{lines-append, lines-nil, lines-one, lines-step}
use Rattle.lines.specs.Lines.{AreWholeLines, IsFirstLine, IsLineCut, lines_in}

-- ---- whole lines

pub whole_none : AreWholeLines []
whole_none more = ap (λ l. l ++ lines_of more) (sym lines-nil)

pub whole_ended : (bs : List ℕ) → slice_index bs (length bs - 1) ≡ 10 → AreWholeLines bs
whole_ended bs feed more = lines-append (length bs) bs more (omega arith) (inr feed)

pub whole_both : (xs ys : List ℕ) → AreWholeLines xs → AreWholeLines ys → AreWholeLines (xs ++ ys)
whole_both xs ys h k more = grind (arith, append_assoc)

-- ---- cuts

pub lines_in-nil : lines_in [] ≡ []
lines_in-nil = ap (map without_terminator) lines-nil

-- An empty text after a text adds no line.
with_nothing : (bs : List ℕ) → lines_of (bs ++ []) ≡ lines_of bs ++ lines_of []
with_nothing bs = ap lines_of (append-nil bs) ∙ sym (append-nil (lines_of bs)) ∙ ap (λ l. lines_of bs ++ l) (sym lines-nil)

-- A text is cut before its first line.
pub cut_none : (text : List ℕ) → IsLineCut text [] text
cut_none text = record { parts = refl; whole = λ _. whole_none }

-- A text is cut after each line feed.
pub cut_after : (text : List ℕ) (at : ℕ) → 0 < at → at ≤ length text → slice_index text (at - 1) ≡ 10 → IsLineCut text (take at text) (drop at text)
cut_after text at some within feed =
    let size = length-take-le at text within in
    record {
      parts = sym (take-append-drop at text);
      whole = λ _. whole_ended (take at text) (ap (λ n. slice_index (take at text) (n - 1)) size ∙ get_or-take at text (at - 1) 0 (omega arith) ∙ feed);
    }

-- The lines of a text are the lines of the front and then the lines of the rest.
pub cut_lines : (text front rest : List ℕ) → IsLineCut text front rest → lines_of text ≡ lines_of front ++ lines_of rest
cut_lines text front [] cut = ap lines_of cut.parts ∙ with_nothing front
cut_lines text front (b ∷ rest) cut = ap lines_of cut.parts ∙ cut.whole (omega arith) (b ∷ rest)

pub cut_lines_in : (text front rest : List ℕ) → IsLineCut text front rest → lines_in text ≡ lines_in front ++ lines_in rest
cut_lines_in text front rest cut =
    ap (map without_terminator) (cut_lines text front rest cut) ∙ map-append without_terminator (lines_of front) (lines_of rest)

-- A cut of the rest is a further cut of the text.
pub cut_more : (text front rest piece left : List ℕ) → IsLineCut text front rest → IsLineCut rest piece left → IsLineCut text (front ++ piece) left
cut_more text front rest piece left cut next = record {
  parts = cut.parts ∙ ap (λ l. front ++ l) next.parts ∙ sym (append_assoc front piece left);
  whole = λ some.
      whole_both front piece (cut.whole (omega (arith, ap length next.parts, length-append piece left))) (next.whole some);
}

-- The front with a further piece has the lines of both.
pub more_lines : (text front rest piece left : List ℕ) → IsLineCut text front rest → IsLineCut rest piece left →
    lines_of (front ++ piece) ≡ lines_of front ++ lines_of piece
more_lines text front rest [] left cut next = with_nothing front
more_lines text front rest (b ∷ piece) left cut next = cut.whole (omega (arith, ap length next.parts, length-append (b ∷ piece) left)) (b ∷ piece)

-- A text that isn't empty has a line.
pub some_lines : (bs : List ℕ) → 0 < length bs → 0 < length (lines_in bs)
some_lines bs some = omega (arith, length-map (lines_of bs) without_terminator, ap length (lines-step bs some))

-- ---- the first line

-- The first line of a text ends at the first line feed.
pub first_at_feed : (text : List ℕ) (e : ℕ) → e < length text → slice_index text e ≡ 10 → ((k : ℕ) → k < e → slice_index text k ≢ 10)
    → IsFirstLine text (without_terminator (take (e + 1) text)) (drop (e + 1) text)
first_at_feed text e inside feed before =
    let line = take (e + 1) text in
    let size : length line ≡ e + 1 = length-take-le (e + 1) text (omega arith) in
    let place : e + 1 - 1 ≡ e = omega arith in
    record {
      ended = line;
      cut = cut_after text (e + 1) (omega arith) (omega arith) (ap (slice_index text) place ∙ feed);
      alone = grind (arith, lines-one, get_or-take);
      content = refl;
    }

no_terminator : (text : List ℕ) → slice_index text (length text - 1) ≢ 10 → without_terminator text ≡ text
no_terminator text other = search (cond-false, ne_eqb, and-false)

-- The first line of a text without a line feed is the whole text.
pub first_whole : (text : List ℕ) → 0 < length text → ((k : ℕ) → k < length text → slice_index text k ≢ 10)
    → IsFirstLine text (take (length text) text) (drop (length text) text)
first_whole text some h =
    let none : drop (length text) text ≡ [] = drop_all (length text) text (omega arith) in
    record {
      ended = text;
      cut = grind (arith, append-nil);
      alone = lines-one text some (λ k a is. h k (omega arith) is);
      content = take_all (length text) text (omega arith) ∙ sym (no_terminator text (h (length text - 1) (omega arith)));
    }

some_line : (line : List ℕ) → lines_of line ≡ line ∷ [] → 0 < length line
some_line [] e = let none : [] ≡ [] ∷ [] = sym lines-nil ∙ e in absurd cc
some_line (b ∷ line) e = omega arith

module _ (text line rest : List ℕ) (first : IsFirstLine text line rest) where
  pub first_some : 0 < length first.ended
  first_some = some_line first.ended first.alone

  pub first_shorter : length rest < length text
  first_shorter = omega (arith, first_some, ap length first.cut.parts, length-append first.ended rest)

  -- The first line with its end is one line.
  pub first_alone : lines_in first.ended ≡ line ∷ []
  first_alone = ap (map without_terminator) first.alone ∙ ap (λ l. l ∷ []) (sym first.content)

  -- The lines of a text are its first line and the lines of the rest.
  pub first_lines : lines_in text ≡ line ∷ lines_in rest
  first_lines = cut_lines_in text first.ended rest first.cut ∙ ap (λ l. l ++ lines_in rest) first_alone
