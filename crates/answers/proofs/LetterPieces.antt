-- The letters of a solution, cut out of its text at the comments.
-- A line that doesn't begin with `;` is kept or empty, and has the same bytes as the line with its end, except LF and
-- CR. So lines without comments have the bytes of their text. A comment adds nothing. Lines end at a line feed, and a
-- comment is first in its line: so the lines of a text are those before the comment, the comment, and those after it.
use Rattle.std.proofs.Common.{◌≡◌, ◌≢◌, ◌⊎◌, ℕ, zero, suc, ◌+◌, ◌-◌, ◌<◌, ◌≤◌, ◌==◌, ◌||◌, ◌&&◌, Bool, true, false, not, cond, nat_lt, List, [], ◌∷◌, ◌++◌, length, map, take, drop, slice_index, refl, sym, ap, ◌∙◌, arith, inl, ⊎_elim, append_assoc, length-drop, length-take-le, take-append-drop, take_all, get_or-take, get_or-drop}
use Rattle.std.specs.Prelude.{filter}
use Rattle.std.specs.Borrow.{Bor}
use Rattle.std.specs.List.{concat}
use Rattle.std.proofs.lemmas.Bool.{and_parts, cases_Bool, cases_lt, cond-true, cond-false, eq-eqb, eqb-true, lt-ltb, ltb-true, ne_eqb}
use Rattle.std.proofs.lemmas.List.{append-nil, take_more}
use Rattle.std.proofs.lemmas.List.Elements.{filter-append}
use Rattle.bstr.specs.Find.{Nowhere, Passes, is_byte}
use Rattle.bstr.specs.Text.{line_len, lines_of, no_cr, without_terminator}
use Rattle.bstr.proofs.lemmas.LineLemmas.{line_len-bounds, lines-nil, lines-step}
use Rattle.lines.specs.declared.search.Start.{Start}
use Rattle.lines.specs.Lines.{IsLineCut, lines_in}
use Rattle.lines.specs.Starts.{AllBeginOutside, IsFirstStart}
use Rattle.lines.proofs.Cuts.{cut_after, cut_lines, cut_none}
use Rattle.lines.proofs.Starts.{content_front, line_ends}
use Rattle.answers.specs.Grammar.{Line, is_kept, numbered}
use Rattle.answers.specs.Held.{kept_after}
use Rattle.answers.specs.Pieces.{BeginsComment, NoCommentBelow, joined, letters_in, unbroken}
use Rattle.answers.proofs.KeptLines.{comments_left}

unbroken-append : (xs ys : List ℕ) → unbroken (xs ++ ys) ≡ unbroken xs ++ unbroken ys
unbroken-append xs ys = search (filter-append)

-- ---- a line without its end

-- there are bytes, and the last one is c
abbrev ends_with : ℕ → List ℕ → Bool
ends_with c bs = nat_lt 0 (length bs) && slice_index bs (length bs - 1) == c

ended_by : (c : ℕ) (bs : List ℕ) → ends_with c bs ≡ true → (0 < length bs) × (slice_index bs (length bs - 1) ≡ c)
ended_by c bs e = grind (arith, and_parts, ltb-true, eqb-true)

-- bytes without an LF or a CR that is last have the same letters
less_last : (c : ℕ) (bs : List ℕ) → (c == 10 || c == 13) ≡ true → ends_with c bs ≡ true → unbroken (take (length bs - 1) bs) ≡ unbroken bs
less_last c bs e is =
    let last = ended_by c bs is in
    let n = length bs - 1 in
    let size : n + 1 ≡ length bs = omega arith in
    let parts : bs ≡ take n bs ++ slice_index bs n ∷ [] = sym (take_all (length bs) bs (omega arith)) ∙ ap (λ k. take k bs) (sym size)
    ∙ take_more bs n 0 (omega arith) in
    grind (arith, unbroken-append, append-nil)

less_cr : (bs : List ℕ) → unbroken (no_cr bs) ≡ unbroken bs
less_cr bs = grind (arith, cond-true, less_last, cond-false, cases_Bool)

less_end : (line : List ℕ) → unbroken (without_terminator line) ≡ unbroken line
less_end line = grind (arith, cond-true, less_cr, less_last, cond-false, cases_Bool)

-- ---- what a line adds

abbrev text_kept : List ℕ → Bool
text_kept text = is_kept (record { number = 0; text = text })

abbrev line_adds : List ℕ → List ℕ
line_adds line = unbroken (cond (text_kept (without_terminator line)) (without_terminator line) [])

lines_add : List (List ℕ) → List ℕ
lines_add [] = []
lines_add (l ∷ ls) = line_adds l ++ lines_add ls

adds_or_not : (t : Bool) (l : Line) (rest : List Line)
    → unbroken (concat (map (λ (x : Line). x.text) (cond t (l ∷ rest) rest))) ≡ unbroken (cond t l.text []) ++ unbroken
    (concat (map (λ (x : Line). x.text) rest))
adds_or_not true l rest = search (unbroken-append)
adds_or_not false l rest = refl

-- lines add the same letters, whatever their numbers are
adds_all : (n : ℕ) (ls : List (List ℕ)) → unbroken (concat
    (map (λ (l : Line). l.text) (filter is_kept (numbered n (map without_terminator ls))))) ≡ lines_add ls
unfolding lines_add
adds_all n [] = refl
adds_all n (l ∷ ls) = search (adds_or_not, adds_all (n + 1) ls)

pub letters_after : (n : ℕ) (bytes : List ℕ) → unbroken (concat (map (λ (l : Line). l.text) (kept_after n bytes))) ≡ letters_in bytes
letters_after n bytes = search (adds_all)

adds-append : (xs ys : List (List ℕ)) → lines_add (xs ++ ys) ≡ lines_add xs ++ lines_add ys
unfolding lines_add
adds-append [] ys = refl
adds-append (x ∷ xs) ys = grind (arith, lines_add, adds-append xs ys, append_assoc)

some_kept : (b : ℕ) (text : List ℕ) → text_kept (b ∷ text) ≡ not (b == 59)
some_kept b text = grind (arith, lt-ltb)

-- a line that begins with another byte than `;` adds all of its bytes, since its content is a front of it
content_adds : (text line tail : List ℕ) → line ≡ text ++ tail → slice_index line 0 ≢ 59 → unbroken (cond (text_kept text) text []) ≡ unbroken text
content_adds [] line tail is other = refl
content_adds (b ∷ text) line tail is other =
    let first : b ≢ 59 = λ e. other (ap (λ bs. slice_index bs 0) is ∙ e) in
    grind (arith, some_kept, ne_eqb)

line_adds_all : (line : List ℕ) → slice_index line 0 ≢ 59 → line_adds line ≡ unbroken line
line_adds_all line other =
    let front = content_front line in
    content_adds (without_terminator line) line front.0 front.1 other ∙ less_end line

-- ---- lines without a comment

-- if no comment begins in a text, none begins in what follows a line feed of it
none_later : {k : ℕ} {bs : List ℕ} → 0 < k → (k < length bs → slice_index bs (k - 1) ≡ 10) → NoCommentBelow (length bs) bs
    → NoCommentBelow (length (drop k bs)) (drop k bs)
none_later {k} {bs} some feed none zero below comment = grind (arith, length-drop, get_or-drop)
none_later {k} {bs} some feed none (suc j) below comment = grind (arith, length-drop, get_or-drop)

no_comment : (fuel : ℕ) (bs : List ℕ) → length bs ≤ fuel → NoCommentBelow (length bs) bs → lines_add (lines_of bs) ≡ unbroken bs
unfolding lines_add
no_comment fuel [] fits none = ap lines_add lines-nil
no_comment zero (b ∷ rest) fits none = absurd (omega arith)
no_comment (suc fuel) (b ∷ rest) fits none =
    let bs = b ∷ rest in
    let k = line_len bs in
    let bounds = line_len-bounds bs (omega arith) in
    let left = length-drop k bs in
    let other : slice_index (take k bs) 0 ≢ 59 = λ e. none 0 (omega arith) (record { mark = sym (get_or-take k bs 0 0 bounds.0) ∙ e; first = inl refl }) in
    let later = no_comment fuel (drop k bs) (omega arith) (none_later bounds.0 (line_ends bs) none) in
    ap lines_add (lines-step bs (omega arith)) ∙ ap (λ a. a ++ lines_add (lines_of (drop k bs))) (line_adds_all (take k bs) other)
    ∙ ap (λ r. unbroken (take k bs) ++ r) later ∙ sym (unbroken-append (take k bs) (drop k bs)) ∙ ap unbroken (take-append-drop k bs)

pub no_comment_letters : (bs : List ℕ) → NoCommentBelow (length bs) bs → letters_in bs ≡ unbroken bs
no_comment_letters bs none = adds_all 1 (lines_of bs) ∙ no_comment (length bs) bs (omega arith) none

pub no_letters : letters_in [] ≡ []
no_letters = grind (arith, no_comment_letters)

-- ---- at a comment

-- A text is cut where a line begins.
comment_cut : (bs : List ℕ) (at : ℕ) → at ≤ length bs → (at ≡ 0) ⊎ (slice_index bs (at - 1) ≡ 10) → IsLineCut bs (take at bs) (drop at bs)
comment_cut bs zero within first = cut_none bs
comment_cut bs (suc at) within first = ⊎_elim (λ none. absurd (omega arith)) (λ feed. cut_after bs (suc at) (omega arith) within feed) first

-- a text is cut at its first comment
module _ (bs : List ℕ) (at : ℕ) (within : at < length bs) (comment : BeginsComment bs at) (before : NoCommentBelow at bs) where
  size : length (take at bs) ≡ at
  size = length-take-le at bs (omega arith)

  -- no comment begins in the lines before the first comment
  early : NoCommentBelow (length (take at bs)) (take at bs)
  early k below c = grind (arith, size, get_or-take)

  pub letters_before : letters_in bs ≡ unbroken (take at bs) ++ letters_in (drop at bs)
  letters_before =
      let rest = lines_of (drop at bs) in
      adds_all 1 (lines_of bs) ∙ ap lines_add (cut_lines bs (take at bs) (drop at bs) (comment_cut bs at (omega arith) comment.first))
      ∙ adds-append (lines_of (take at bs)) rest ∙ ap (λ a. a ++ lines_add rest) (no_comment (length (take at bs)) (take at bs) (omega arith) early)
      ∙ ap (λ r. unbroken (take at bs) ++ r) (sym (adds_all 1 rest))

-- the letters of some lines, without LF and CR
letters_of : List Line → List ℕ
letters_of lines = unbroken (concat (map (λ (l : Line). l.text) lines))

pub letters_past : (bs : List ℕ) (start : Start) → IsFirstStart (λ b. not (b == 59)) bs start → letters_in (drop start.at bs) ≡ letters_in bs
unfolding letters_of
letters_past bs start h =
    let front = lines_of (take start.at bs) in
    let rest = lines_of (drop start.at bs) in
    let none : lines_add front ≡ [] = sym (adds_all 1 front) ∙ ap letters_of (comments_left 1 (lines_in (take start.at bs)) h.others) in
    sym (adds_all 1 (lines_of bs) ∙ ap lines_add (cut_lines bs (take start.at bs) (drop start.at bs) h.cut) ∙ adds-append front rest
    ∙ ap (λ a. a ++ lines_add rest) none ∙ sym (adds_all 1 rest))

pub comments_alone : (bs : List ℕ) → AllBeginOutside (λ b. not (b == 59)) (lines_in bs) → letters_in bs ≡ []
unfolding letters_of
comments_alone bs others = search (comments_left)

-- ---- looking for a comment

-- if no `;` is among the next bytes, no comment begins there
pub looked : {bs : List ℕ} {from next : ℕ} → from ≤ length bs → NoCommentBelow from bs
    → Nowhere (Passes (is_byte 59) (take (length bs - from) (drop from bs))) 0 next → NoCommentBelow (from + next) bs
looked {bs} {from} within before none k below comment = ⊎_elim
    (λ early. before k early comment)
    (λ late.
    let here : from + (k - from) ≡ k = omega arith in
    let same = ap (λ l. slice_index l (k - from)) (take_all (length bs - from) (drop from bs) (omega (arith, length-drop from bs)))
    ∙ get_or-drop from bs (k - from) 0 ∙ ap (slice_index bs) here in
    none (k - from) (omega arith) (omega arith) (eq-eqb _ _ (same ∙ comment.mark)))
    (cases_lt k from)

-- no comment begins at a `;` that isn't first in its line
pub looked_past : (bs : List ℕ) (at : ℕ) → NoCommentBelow at bs → at ≢ 0 → slice_index bs (at - 1) ≢ 10 → NoCommentBelow (at + 1) bs
looked_past bs at before some other k below comment = grind (arith, early, cases_lt)

-- ---- pieces, one after the other

-- if no line is left, the pieces have all letters
pub pieces_all : (pieces : List (Bor (List ℕ))) (left all : List ℕ) → unbroken (joined pieces) ++ letters_in left ≡ all → length left ≡ 0
    → unbroken (joined pieces) ≡ all
pieces_all pieces [] all before none = grind (arith, no_letters, append-nil)
pieces_all pieces (b ∷ left) all before none = absurd (omega arith)
