-- The search for the first line that begins with a byte of a class.
-- A line without its end is a front of the line, so it begins with the same byte or is empty. If bytes begin with no byte of the class, and
-- no such byte follows a line feed, then no line of the bytes begins with one. The search looks at each line feed and the byte after it: in
-- a block of 64 by two words of bits, which have no bit in common if no such line begins there, and after that one by one. It counts line
-- feeds on the way, because bytes that end with a line feed have one line for each line feed.
use Rattle.std.proofs.Common.{◌≡◌, ◌≢◌, ℕ, suc, zero, ◌+◌, ◌-◌, ◌/◌, ◌^◌, ◌<◌, ◌≤◌, ◌==◌, Bool, true, false, cond, List, [], ◌∷◌, ◌++◌, length, take, drop, get_or, sym, ap, subst, ◌∙◌, arith, inl, inr, Fits, ⊎_elim, append_assoc, length-drop, length-take-le, take-append-drop, get_or-take, get_or-drop}
use Rattle.std.specs.Prelude.{count_by}
use Rattle.std.specs.Int.{w64, trailing_zeros}
use Rattle.std.proofs.lemmas.Bool.{cases_Bool, cases_lt, cond-true, cond-false, eq-eqb, eqb-true, ne_eqb}
use Rattle.std.proofs.lemmas.List.{append-nil, nil_from_length}
use Rattle.std.proofs.lemmas.List.Sums.{count_by-le-length, count_by_more_no, count_by_more_yes, sum_by-cons}
use Rattle.bstr.specs.Text.{line_len, lines_of, no_cr, without_terminator}
use Rattle.bstr.proofs.lemmas.LineLemmas.{EndsLine, line_len-bounds, lines-nil, lines-step}
use Rattle.lines.specs.Lines.{lines_in}
use Rattle.lines.specs.Starts.{AllBeginOutside, AreFeeds, BeginsOutside, IsFirstStart, IsScanned, NoStart, is_feed}
use Rattle.lines.proofs.Feeds.{first_feed, later_feeds, no_feed}
use Rattle.lines.proofs.Cuts.{cut_none, lines_in-nil, whole_ended}

-- ---- a line without its end

front_or_all : (t : Bool) (n : ℕ) (bs : List ℕ) → (tail : List ℕ) × (bs ≡ cond t (take n bs) bs ++ tail)
front_or_all true n bs = (drop n bs, sym (take-append-drop n bs))
front_or_all false n bs = grind (arith, append-nil)

front_less_cr : (bs : List ℕ) → (tail : List ℕ) × (bs ≡ no_cr bs ++ tail)
front_less_cr bs = search (front_or_all)

front_less_end : (t : Bool) (n : ℕ) (line : List ℕ) → (tail : List ℕ) × (line ≡ cond t (no_cr (take n line)) line ++ tail)
front_less_end true n line =
    let less = front_less_cr (take n line) in
    (less.0 ++ drop n line, sym (take-append-drop n line) ∙ ap (λ l. l ++ drop n line) less.1 ∙ append_assoc (no_cr (take n line)) less.0 (drop n line))
front_less_end false n line = grind (arith, append-nil)

-- A line without its end is a front of the line.
pub content_front : (line : List ℕ) → (tail : List ℕ) × (line ≡ without_terminator line ++ tail)
content_front line = search (front_less_end)

outside_front : (class : ℕ → Bool) (front tail : List ℕ) → BeginsOutside class (front ++ tail) → BeginsOutside class front
outside_front class [] tail h = tt
outside_front class (b ∷ front) tail h = h

outside_content : (class : ℕ → Bool) (line : List ℕ) → BeginsOutside class line → BeginsOutside class (without_terminator line)
outside_content class line h = grind (arith, content_front, outside_front)

-- ---- lines that begin with no byte of the class

-- A line that isn't the whole text ends with a line feed.
pub line_ends : (bs : List ℕ) → line_len bs < length bs → get_or bs (line_len bs - 1) 0 ≡ 10
unfolding line_len
line_ends [] more = absurd (omega arith)
line_ends (b ∷ bs) more = ⊎_elim
    (λ yes. ap (λ k. get_or (b ∷ bs) (k - 1) 0) (cond-true _ _ _ yes) ∙ eqb-true b 10 yes)
    (λ no.
    let long : line_len (b ∷ bs) ≡ suc (line_len bs) = cond-false _ _ _ no in
    grind (arith, line_len-bounds, line_ends bs (omega arith)))
    (cases_Bool (b == 10))

all_outside : (class : ℕ → Bool) (m : ℕ) (bs : List ℕ) → length bs ≤ m → NoStart class bs (length bs) → AllBeginOutside class (lines_in bs)
all_outside class m [] fits h = search (lines_in-nil)
all_outside class zero (b ∷ bs) fits h = absurd (omega arith)
all_outside class (suc m) (b ∷ bs) fits h =
    let all = b ∷ bs in
    let n = line_len all in
    let rest = drop n all in
    let bounds = line_len-bounds all (omega arith) in
    let left : length rest ≡ length all - n = length-drop n all in
    let later : NoStart class rest (length rest) = record {
      first = λ some.
          let place : n + 0 ≡ n - 1 + 1 = omega arith in
          ap class (get_or-drop n all 0 0) ∙ ap (λ k. class (get_or all k 0)) place ∙ h.others (n - 1) (omega arith) (line_ends all (omega arith));
      others = λ j inside feed.
          grind (arith, get_or-drop);
    } in
    let first = outside_front class (take n all) rest (rw (take-append-drop n all) (h.first (omega arith))) in
    grind (arith, lines-step, outside_content, all_outside class m rest (omega arith) later)

-- An empty text has no line.
pub nothing_begins : (class : ℕ → Bool) (text : List ℕ) → length text ≡ 0 → AllBeginOutside class (lines_in text)
nothing_begins class text none = grind (arith, nil_from_length, lines_in-nil)

-- ---- line feeds and lines

ends_tail : (b c : ℕ) (bs : List ℕ) → EndsLine (b ∷ c ∷ bs) → EndsLine (c ∷ bs)
ends_tail b c bs (inl none) = absurd (omega arith)
ends_tail b c bs (inr feed) = grind arith

-- Bytes that end a line have as many lines as line feeds.
feeds_are_lines : (bs : List ℕ) → EndsLine bs → length (lines_of bs) ≡ count_by is_feed bs
unfolding line_len
feeds_are_lines [] ends = ap length lines-nil
feeds_are_lines (b ∷ []) (inl none) = absurd (omega arith)
feeds_are_lines (b ∷ []) (inr feed) = grind (arith, sum_by-cons, eq-eqb, cond-true, lines-step, lines-nil)
feeds_are_lines (b ∷ c ∷ bs) ends =
    let all = b ∷ c ∷ bs in
    let rest = feeds_are_lines (c ∷ bs) (ends_tail b c bs ends) in
    let count = sum_by-cons (λ x. cond (is_feed x) 1 0) b (c ∷ bs) in
    grind (arith, lines-step, cond-true, cond-false, cases_Bool)

-- ---- the search

module _ (class : ℕ → Bool) (text : List ℕ) where
  pub scan_start : class (get_or text 0 0) ≡ false → IsScanned class text 0 0
  scan_start other = grind arith

  -- If no byte of the class follows the next line feeds, no line begins with one up to there.
  none_further : (at more : ℕ) → NoStart class text (at + 1) → ((k : ℕ) → k < more → get_or text (at + k) 0 ≡ 10 → class (get_or text (at + k + 1) 0) ≡ false)
      → NoStart class text (at + more + 1)
  none_further at more none next = record {
    first = λ _. none.first (omega arith);
    others = λ j low feed. ⊎_elim
        (λ early. none.others j (omega arith) feed)
        (λ late.
        let k = j - at in
        let place : at + k ≡ j = omega arith in
        grind arith)
        (cases_lt j at);
  }

  -- There are at most as many line feeds as bytes.
  pub few_before : (at before : ℕ) → IsScanned class text at before → before ≤ length text
  few_before at before s = grind (arith, count_by-le-length, length-take-le)

  -- The scan goes on by one byte if that is no line feed with a byte of the class after it.
  scan_byte : (at before after : ℕ) → at + 1 < length text → IsScanned class text at before → (get_or text at 0 ≡ 10 → class (get_or text (at + 1) 0) ≡ false)
      → count_by is_feed (take (at + 1) text) ≡ after → IsScanned class text (at + 1) after
  scan_byte at before after more s other count = grind (arith, none_further)

  pub scan_feed : (at before : ℕ) → at + 1 < length text → IsScanned class text at before → get_or text at 0 ≡ 10
      → class (get_or text (at + 1) 0) ≡ false → IsScanned class text (at + 1) (before + 1)
  scan_feed at before more s feed other = grind (arith, scan_byte, count_by_more_yes, eq-eqb)

  pub scan_other : (at before : ℕ) → at + 1 < length text → IsScanned class text at before → get_or text at 0 ≢ 10 → IsScanned class text (at + 1) before
  scan_other at before more s other = grind (arith, scan_byte, count_by_more_no, ne_eqb)

  -- The scan goes on past bytes that are no line feeds.
  scan_on : (at before more : ℕ) → at + more < length text → IsScanned class text at before → ((k : ℕ) → k < more → get_or text (at + k) 0 ≢ 10)
      → IsScanned class text (at + more) before
  scan_on at before zero within s none = grind arith
  scan_on at before (suc more) within s none =
      let here : at + suc more ≡ at + more + 1 = omega arith in
      rw here (scan_other (at + more) before (omega arith) (scan_on at before more (omega arith) s (λ k low. none k (omega arith))) (none more (omega arith)))

  -- At the end of the scan, no line of the text begins with a byte of the class.
  pub scan_end : (at before : ℕ) → length text ≤ at + 1 → IsScanned class text at before → AllBeginOutside class (lines_in text)
  scan_end at before past s = grind (arith, all_outside)

  -- If the text begins with a byte of the class, its first line is the one that is looked for.
  pub start_at_once : 0 < length text → class (get_or text 0 0) ≡ true → IsFirstStart class text (record { at = 0; before = 0 })
  start_at_once some starts = search (cut_none, lines-nil)

  -- If a byte of the class follows the next line feed, the line that begins there is the one that is looked for.
  pub start_after : (at before : ℕ) → at + 1 < length text → IsScanned class text at before → get_or text at 0 ≡ 10
      → class (get_or text (at + 1) 0) ≡ true → IsFirstStart class text (record { at = at + 1; before = before + 1 })
  start_after at before more s feed starts =
      grind (arith, whole_ended, all_outside, count_by_more_yes, eq-eqb, feeds_are_lines, length-take-le, get_or-take, take-append-drop)

-- ---- line feeds by their bits

-- The search has come to a place, and the word says which of the bytes from there up to an end are line feeds.
pub record IsAmong (class : ℕ → Bool) (text : List ℕ) (end at before word : ℕ) : Type 0 where
  pub room : end < length text
  pub upto : at ≤ end
  pub near : end ≤ at + 32
  pub scanned : IsScanned class text at before
  pub feeds : AreFeeds text at (end - at) word

pub among_first : {class : ℕ → Bool} {text : List ℕ} {at before word : ℕ} → at + 33 ≤ length text → IsScanned class text at before
    → AreFeeds text at 32 word → IsAmong class text (at + 32) at before word
among_first {at = at} room scanned feeds = grind arith

module _ {class : ℕ → Bool} {text : List ℕ} {end at before word : ℕ} (a : IsAmong class text end at before word) where
  pub among_none : word ≡ 0 → IsScanned class text end before
  among_none none =
      let whole : at + (end - at) ≡ end = omega arith in
      subst (λ n. IsScanned class text n before) whole
      (scan_on class text at before (end - at) (omega arith) a.scanned (no_feed text at (end - at) word a.feeds none))

  module _ (fits : Fits w64 word) (some : word ≢ 0) where
    pub among_next : (at + trailing_zeros w64 word < end) × (trailing_zeros w64 word < 32) × (get_or text (at + trailing_zeros w64 word) 0 ≡ 10)
        × IsScanned class text (at + trailing_zeros w64 word) before
    among_next =
        let (low, feed, none) = first_feed text at (end - at) word a.feeds (omega arith) some in
        (omega arith, omega arith, feed, scan_on class text at before (trailing_zeros w64 word) (omega arith) a.scanned none)

    pub among_start : class (get_or text (at + (trailing_zeros w64 word + 1)) 0) ≡ true
        → IsFirstStart class text (record { at = at + (trailing_zeros w64 word + 1); before = before + 1 })
    among_start starts =
        let (low, small, feed, scanned) = among_next in
        let place : at + (trailing_zeros w64 word + 1) ≡ at + trailing_zeros w64 word + 1 = omega arith in
        rw place (start_after class text (at + trailing_zeros w64 word) before (omega arith) scanned feed (rw (sym place) starts))

    pub among_more : class (get_or text (at + (trailing_zeros w64 word + 1)) 0) ≡ false
        → IsAmong class text end (at + (trailing_zeros w64 word + 1)) (before + 1) (word / 2 ^ (trailing_zeros w64 word + 1))
    among_more other =
        let t = trailing_zeros w64 word in
        let (low, small, feed, scanned) = among_next in
        let place : at + (t + 1) ≡ at + t + 1 = omega arith in
        let left : end - at - (t + 1) ≡ end - (at + (t + 1)) = omega arith in
        let room = a.room in let near = a.near in
        record {
          room = room;
          upto = omega arith;
          near = omega arith;
          scanned = rw place (scan_feed class text (at + t) before (omega arith) scanned feed (rw (sym place) other));
          feeds = grind (arith, later_feeds);
        }
