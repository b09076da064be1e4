-- The letter lines of a record together are no longer than the text. The lines of a text with their ends are the text
-- cut up, so together they are as long; without their ends they are no longer, and the kept ones are some of them. The
-- blocks of a text divide its kept lines among them, and the letter lines of a block are among its lines.
use Rattle.std.proofs.Common.{◌≡◌, ℕ, zero, suc, ◌+◌, ◌≤◌, Bool, true, false, cond, List, [], ◌∷◌, ◌++◌, length, map, take, drop, All, Result, Ok, Err, refl, sym, ap, ◌∙◌, arith, inl, inr, length-append, take-append-drop}
use Rattle.std.specs.Prelude.{filter, sum_by, IfOk}
use Rattle.std.specs.Borrow.{Bor}
use Rattle.std.specs.List.{AllByRecursion}
use Rattle.std.proofs.lemmas.List.Elements.{All-from_recursion}
use Rattle.std.proofs.lemmas.List.Sums.{sum_by-cons}
use Rattle.bstr.specs.Text.{line_len, lines_from, no_cr, without_terminator}
use Rattle.lines.specs.Lines.{lines_in}
use Rattle.answers.specs.declared.fault.AnswersFault.{AnswersFault}
use Rattle.answers.specs.declared.record.Answers.{Answers}
use Rattle.answers.specs.declared.record.Record.{Record}
use Rattle.answers.specs.declared.record.Record.TheVariants as record_is
use Rattle.answers.specs.declared.record_text.RecordText.{RecordText}
use Rattle.answers.specs.Records.{SaysOfLevel, body_lines}
use Rattle.answers.specs.Grammar.{Line, IsCertificate, IsBody, IsBlock, AreBlocks, SpellsEntries, numbered, is_kept, kept_lines, said_body, said_record, said_answers, HasLettersWithin}
use Rattle.answers.specs.Body.{Entry, Body, LetterLines, PatternLines, OneZone, FirstBad}

-- the length of some texts together
len_all : List (List ℕ) → ℕ
len_all [] = 0
len_all (l ∷ ls) = length l + len_all ls

len_lines : List Line → ℕ
len_lines [] = 0
len_lines (l ∷ ls) = length l.text + len_lines ls

-- ---- the lines of a text

len_cut : (n : ℕ) (bs : List ℕ) → length (take n bs) + length (drop n bs) ≡ length bs
len_cut n bs = sym (length-append (take n bs) (drop n bs)) ∙ ap length (take-append-drop n bs)

len_from : (fuel : ℕ) (bs : List ℕ) → len_all (lines_from fuel bs) ≤ length bs
unfolding lines_from len_all
len_from zero bs = omega arith
len_from (suc n) [] = omega arith
len_from (suc n) (b ∷ rest) =
    let k = line_len (b ∷ rest) in
    omega (arith, len_from n (drop k (b ∷ rest)), len_cut k (b ∷ rest))

len_take : (n : ℕ) (bs : List ℕ) → length (take n bs) ≤ length bs
len_take n bs = omega (arith, len_cut n bs)

len_cond : (c : Bool) (xs ys : List ℕ) (n : ℕ) → length xs ≤ n → length ys ≤ n → length (cond c xs ys) ≤ n
len_cond true xs ys n h k = h
len_cond false xs ys n h k = k

len_no_cr : (bs : List ℕ) → length (no_cr bs) ≤ length bs
len_no_cr bs = grind (arith, len_cond, len_take)

len_line : (bs : List ℕ) → length (without_terminator bs) ≤ length bs
len_line bs = grind (arith, len_cond, len_no_cr, len_take)

len_map : (ls : List (List ℕ)) → len_all (map without_terminator ls) ≤ len_all ls
unfolding len_all
len_map [] = omega arith
len_map (l ∷ ls) = omega (arith, len_line l, len_map ls)

len_text : (text : List ℕ) → len_all (lines_in text) ≤ length text
len_text text = grind (arith, len_map, len_from)

-- ---- the kept ones

len_numbered : (n : ℕ) (ls : List (List ℕ)) → len_lines (numbered n ls) ≡ len_all ls
unfolding len_lines len_all
len_numbered n [] = refl
len_numbered n (l ∷ ls) = search (len_numbered (n + 1) ls)

len_filter : (ls : List Line) → len_lines (filter is_kept ls) ≤ len_lines ls
unfolding len_lines
len_filter [] = omega arith
len_filter (l ∷ ls) = grind (arith, len_filter ls)

len_less_first : (ls : List Line) → len_lines (drop 1 ls) ≤ len_lines ls
unfolding len_lines
len_less_first [] = omega arith
len_less_first (l ∷ ls) = omega arith

len_kept : (text : List ℕ) → len_lines (kept_lines text) ≤ length text
len_kept text = grind (arith, len_filter, len_less_first, len_numbered, len_text)

-- ---- bodies and blocks

-- the length of the letter lines of a body together
len_body : Body → ℕ
len_body (LetterLines lines) = len_all lines
len_body (PatternLines patterns) = 0
len_body (OneZone zone) = 0
len_body (FirstBad n why) = 0

len_append : (xs ys : List Line) → len_lines (xs ++ ys) ≡ len_lines xs + len_lines ys
unfolding len_lines
len_append [] ys = omega arith
len_append (x ∷ xs) ys = omega (arith, len_append xs ys)

len_texts : (ls : List Line) → len_all (map (λ l. l.text) ls) ≡ len_lines ls
unfolding len_all len_lines
len_texts [] = refl
len_texts (l ∷ ls) = search (len_texts ls)

certificate_len : (version : ℕ) (lines : List Line) (b : Body) → IsCertificate version lines b → len_body b ≤ len_lines lines
unfolding len_body
certificate_len version lines (LetterLines letters) h = absurd h
certificate_len version lines (PatternLines patterns) h = omega arith
certificate_len version lines (OneZone zone) h = omega arith
certificate_len version lines (FirstBad n why) h = omega arith

letters_of : (lines : List Line) → len_body (LetterLines (map (λ l. l.text) lines)) ≡ len_lines lines
unfolding len_body
letters_of lines = len_texts lines

body_len : (version : ℕ) {kind : List ℕ} (lines : List Line) {b : Body} → IsBody version kind lines b → len_body b ≤ len_lines lines
body_len version lines (inl h) = grind (arith, len_body, letters_of)
body_len version lines {b} (inr h) = certificate_len version lines b h.1

block_len : {version : ℕ} {block : List Line} {e : Entry} → IsBlock version block e → len_body e.body ≤ len_lines block
unfolding len_lines
block_len {version} h = omega (arith, ap len_lines h.split, len_append h.lines (h.last ∷ []), body_len version h.lines h.says)

blocks_len : (version : ℕ) (lines : List Line) (entries : List Entry) {most : ℕ} → AreBlocks version lines entries → len_lines lines ≤ most
    → AllByRecursion (λ (e : Entry). len_body e.body ≤ most) entries
blocks_len version lines [] h fits = tt
blocks_len version lines (e ∷ entries) h fits =
    let parts : len_lines lines ≡ len_lines h.0 + len_lines h.1 = ap len_lines h.2 ∙ len_append h.0 h.1 in
    (omega (arith, block_len h.3), blocks_len version h.1 entries h.4 (omega arith))

-- ---- what is read

len_sum : (lines : List (Bor (List ℕ))) → sum_by (λ line. length line.now) lines ≡ len_all (map (λ l. l.now) lines)
unfolding len_all
len_sum [] = refl
len_sum (l ∷ lines) = search (sum_by-cons, len_sum lines)

within_one : (r : Record) {most : ℕ} → len_body (said_body r) ≤ most → HasLettersWithin most r
unfolding len_body
within_one (record_is.Solution lines) h = omega (arith, len_sum lines.items)
within_one (record_is.Patterns patterns) h = tt
within_one (record_is.Zone zone) h = tt
within_one (record_is.BadLine line why) h = tt

within_each : (records : List (ℕ × Record)) (most : ℕ) → AllByRecursion (λ (e : Entry). len_body e.body ≤ most) (map said_record records)
    → AllByRecursion (λ (r : ℕ × Record). HasLettersWithin most r.1) records
within_each [] most h = tt
within_each (r ∷ records) most h = search (within_one, within_each records most h.1)

pub letters_within : (text : List ℕ) (levels : ℕ) (r : Result Answers AnswersFault) → IfOk r (λ a. SpellsEntries text levels (said_answers a))
    → IfOk r (λ a. All (λ (x : ℕ × Record). HasLettersWithin (length text) x.1) a.records.items)
letters_within text levels (Ok a) h =
    All-from_recursion (λ (x : ℕ × Record). HasLettersWithin (length text) x.1) a.records.items
    (within_each a.records.items (length text) (blocks_len h.version (kept_lines text) (said_answers a) h.blocks (len_kept text)))
letters_within text levels (Err f) h = tt

-- the letters that a record says are within its bytes
pub letters_of_record : (r : RecordText) (said : Record) (most : ℕ) → SaysOfLevel r (said_body said) → length r.lines.text.now ≤ most
    → HasLettersWithin most said
letters_of_record r said most says fits =
    let all = lines_in r.lines.text.now in
    within_one said (omega (arith, body_len r.version (body_lines r) says, len_filter (numbered (r.lines.before + 1) all), len_numbered (r.lines.before + 1) all, len_text r.lines.text.now))
