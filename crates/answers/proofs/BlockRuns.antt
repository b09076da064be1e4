-- The lines of whole blocks are read as what the blocks say. A level line that may follow is taken, a kind line opens
-- its body, the lines up to `end` come to what the body says, and `end` closes the block. So a block adds its entry,
-- and blocks add theirs in order. What follows whole blocks is then read from there, and the line that the rule names
-- as the first fault is refused with that fault.
use Rattle.std.proofs.Common.{◌≡◌, ℕ, ◌+◌, ◌<◌, ◌≤◌, List, [], ◌∷◌, ◌++◌, map, Result, Ok, Err, refl, sym, ap, ◌∙◌, arith, inl, inr, append_assoc}
use Rattle.std.specs.Prelude.{codes}
use Rattle.std.proofs.lemmas.List.{append-nil}
use Rattle.answers.specs.declared.fault.AnswersFault.{AnswersFault}
use Rattle.answers.specs.declared.fault.AnswersFault.TheVariants.{Header, Level, Order, Unknown, Kind, Unclosed, Memory}
use Rattle.answers.specs.Grammar.{Line, IsBody, NoneEnds, IsBlock, AreBlocks, RiseWithin}
use Rattle.answers.specs.Body.{Entry, Body, LetterLines, PatternLines}
use Rattle.answers.specs.FirstFault.{BeginsWith, last_level, IsNextLevel, IsKind, IsUnclosed, IsLineFault}
use Rattle.answers.specs.Reading.{on_ok, after_lines, extended, Stage, LevelDue, KindDue, BodyDue, step, run, closed}
use Rattle.answers.proofs.DueLines.{take_level, IsLevelRefused, no_line, not_above, not_known, refuse_level, Opens, solution, certificate, take_kind, refuse_kind, same_text, other_text}
use Rattle.answers.proofs.Bodies.{certificate_again}
use Rattle.answers.proofs.Runs.{last_level-push}

chain_on : {A B C : Type 0} (r : Result A AnswersFault) (f : A → Result B AnswersFault) (g : B → Result C AnswersFault) {both : A → Result C AnswersFault}
    → ((x : A) → both x ≡ on_ok (f x) g) → on_ok r both ≡ on_ok (on_ok r f) g
chain_on (Ok x) f g h = h x
chain_on (Err e) f g h = refl

-- more lines are read from where the first ones led
pub run-append : (version levels : ℕ) (xs ys : List Line) (entries : List Entry) (stage : Stage)
    → run version levels entries stage (xs ++ ys) ≡ on_ok (run version levels entries stage xs) (λ next. run version levels next.0 next.1 ys)
run-append version levels [] ys entries stage = refl
run-append version levels (x ∷ xs) ys entries stage =
    chain_on (step version levels entries stage x) (λ next. run version levels next.0 next.1 xs) (λ next. run version levels next.0 next.1 ys) (λ next. run-append version levels xs ys next.0 next.1)

pub from_there : (version levels : ℕ) (xs ys : List Line) (entries : List Entry) (stage : Stage) (es : List Entry) (s : Stage)
    → run version levels entries stage xs ≡ Ok (es, s) → run version levels entries stage (xs ++ ys) ≡ run version levels es s ys
from_there version levels xs ys entries stage es s e = grind (arith, run-append)

-- ---- blocks

step_level : (version : ℕ) {levels : ℕ} {entries : List Entry} (l : Line) {n : ℕ} → IsNextLevel entries levels l.text n
    → step version levels entries LevelDue l ≡ Ok (entries, KindDue n)
step_level version l h = grind (arith, take_level)

step_kind : (version levels : ℕ) (entries : List Entry) (n : ℕ) (l : Line) {b : Body} → Opens l.text b
    → step version levels entries (KindDue n) l ≡ Ok (entries, BodyDue n b)
step_kind version levels entries n l {b} h = ap (λ r. on_ok r (λ b. Ok (entries, BodyDue n b))) (take_kind l h)

-- lines other than `end` come to what the body says
pub run_lines : (version levels : ℕ) (lines : List Line) (entries : List Entry) (n : ℕ) (b : Body) → NoneEnds lines
    → run version levels entries (BodyDue n b) lines ≡ Ok (entries, BodyDue n (after_lines version b lines))
run_lines version levels [] entries n b h = refl
run_lines version levels (l ∷ lines) entries n b h = search (other_text, run_lines version levels lines entries n (extended version b l) h.1)

pub letters_after : (version : ℕ) (lines : List Line) (before : List (List ℕ))
    → after_lines version (LetterLines before) lines ≡ LetterLines (before ++ map (λ l. l.text) lines)
unfolding extended
letters_after version [] before = search (append-nil)
letters_after version (l ∷ lines) before = grind (arith, letters_after version lines (before ++ l.text ∷ []), append_assoc)

-- a kind line and the lines after it come to what the body says
run_body : (version levels : ℕ) (entries : List Entry) (n : ℕ) (kind : Line) (lines : List Line) {b : Body} → IsBody version kind.text lines b → NoneEnds lines
    → run version levels entries (KindDue n) (kind ∷ lines) ≡ Ok (entries, BodyDue n b)
run_body version levels entries n kind lines (inl h) none =
    ap (λ r. on_ok r (λ next. run version levels next.0 next.1 lines)) (step_kind version levels entries n kind (solution h.0 refl))
    ∙ run_lines version levels lines entries n (LetterLines []) none ∙ ap (λ x. Ok (entries, BodyDue n x)) (letters_after version lines [] ∙ sym h.1)
run_body version levels entries n kind lines {b} (inr h) none =
    ap (λ r. on_ok r (λ next. run version levels next.0 next.1 lines)) (step_kind version levels entries n kind (certificate h.0 refl))
    ∙ run_lines version levels lines entries n (PatternLines []) none ∙ ap (λ x. Ok (entries, BodyDue n x)) (certificate_again version lines b h.1)

pub run_end : (version levels : ℕ) (entries : List Entry) (n : ℕ) (b : Body) (l : Line) → l.text ≡ codes "end"
    → run version levels entries (BodyDue n b) (l ∷ []) ≡ Ok (entries ++ record { level = n; body = b } ∷ [], LevelDue)
run_end version levels entries n b l is = search (same_text)

-- a block adds its entry
run_block : {version levels : ℕ} {block : List Line} (entries : List Entry) {e : Entry} → IsBlock version block e → last_level entries < e.level
    → e.level ≤ levels → run version levels entries LevelDue block ≡ Ok (entries ++ e ∷ [], LevelDue)
run_block {version} {levels} entries {e} h over known =
    let next : IsNextLevel entries levels h.level.text e.level =
    record { line = record { low = omega arith; spelled = h.number }; above = over; known = known } in
    ap (run version levels entries LevelDue) h.split
    ∙ ap (λ r. on_ok r (λ next. run version levels next.0 next.1 (h.kind ∷ (h.lines ++ h.last ∷ [])))) (step_level version h.level next)
    ∙ from_there version levels (h.kind ∷ h.lines) (h.last ∷ []) entries (KindDue e.level) entries (BodyDue e.level e.body)
    (run_body version levels entries e.level h.kind h.lines h.says h.goes_on) ∙ run_end version levels entries e.level e.body h.last h.ends

-- blocks add their entries, in order
pub run_blocks : (version levels : ℕ) (lines : List Line) (entries more : List Entry) → AreBlocks version lines more
    → RiseWithin (last_level entries) levels more → run version levels entries LevelDue lines ≡ Ok (entries ++ more, LevelDue)
run_blocks version levels lines entries [] h rise = grind (arith, append-nil)
run_blocks version levels lines entries (e ∷ more) h rise =
    let first = run_block entries h.3 rise.0 rise.1 in
    let rest : RiseWithin (last_level (entries ++ e ∷ [])) levels more = rw (last_level-push entries e) rise.2 in
    grind (arith, from_there, run_blocks version levels h.1 (entries ++ e ∷ []) more h.4 rest, append_assoc)

-- the lines after whole blocks are read from where the blocks led
after_blocks : (version levels : ℕ) (kept : List Line) (entries : List Entry) (rest : List Line) → BeginsWith version levels kept entries rest
    → run version levels [] LevelDue kept ≡ run version levels entries LevelDue rest
after_blocks version levels kept entries rest h =
    ap (run version levels [] LevelDue) h.split
    ∙ from_there version levels h.front rest [] LevelDue entries LevelDue (run_blocks version levels h.front [] entries h.blocks h.rise)

-- ---- what is spelled, and what is at fault

-- whole blocks are read as the entries that they spell
pub kept_again : (version levels count : ℕ) (kept : List Line) {entries : List Entry} → AreBlocks version kept entries → RiseWithin 0 levels entries
    → on_ok (run version levels [] LevelDue kept) (closed count) ≡ Ok entries
kept_again version levels count kept {entries} h rise = ap (λ r. on_ok r (closed count)) (run_blocks version levels kept [] entries h rise)

refused_at : (version levels count : ℕ) (kept : List Line) (entries : List Entry) (l : Line) (rest : List Line) (f : AnswersFault)
    → BeginsWith version levels kept entries (l ∷ rest)
    → IsLevelRefused (last_level entries) levels l f → on_ok (run version levels [] LevelDue kept) (closed count) ≡ Err f
refused_at version levels count kept entries l rest f h bad =
    ap (λ r. on_ok r (closed count)) (after_blocks version levels kept entries (l ∷ rest) h)
    ∙ ap (λ r. on_ok (on_ok {A = List Entry × Stage} (on_ok {B = List Entry × Stage} r (λ n. Ok (entries, KindDue n)))
    (λ next. run version levels next.0 next.1 rest)) (closed count)) (refuse_level bad)

kind_opens : (version : ℕ) {text : List ℕ} → IsKind text → (b : Body) × Opens text b
kind_opens version (inl e) = (LetterLines [], solution e refl)
kind_opens version (inr e) = (PatternLines [], certificate e refl)

unclosed_at : (version levels count : ℕ) (entries : List Entry) (rest : List Line) → IsUnclosed entries levels rest
    → on_ok (run version levels entries LevelDue rest) (closed count) ≡ Err (Unclosed (count + 1))
unclosed_at version levels count entries [] h = absurd h
unclosed_at version levels count entries (l ∷ []) h =
    ap (λ r. on_ok (on_ok r (λ next. run version levels next.0 next.1 [])) (closed count)) (step_level version l h.1)
unclosed_at version levels count entries (l ∷ k ∷ lines) h =
    let b = kind_opens version h.1 in
    ap (λ r. on_ok (on_ok r (λ next. run version levels next.0 next.1 (k ∷ lines))) (closed count)) (step_level version l h.0.1)
    ∙ ap (λ r. on_ok (on_ok r (λ next. run version levels next.0 next.1 lines)) (closed count)) (step_kind version levels entries h.0.0 k b.1)
    ∙ ap (λ r. on_ok r (closed count)) (run_lines version levels lines entries h.0.0 b.0 h.2)

-- lines with a fault are refused with this fault
pub fault_again : (version levels count : ℕ) (kept : List Line) (f : AnswersFault) → IsLineFault version levels kept count f
    → on_ok (run version levels [] LevelDue kept) (closed count) ≡ Err f
fault_again version levels count kept (Header n) h = absurd h
fault_again version levels count kept (Level n) h = refused_at version levels count kept h.0 h.1 h.2 (Level n) h.3 (no_line h.5 (ap Level (sym h.4)))
fault_again version levels count kept (Order n) h = refused_at version levels count kept h.0 h.1 h.2 (Order n) h.3 (not_above h.5 h.6 h.7 (ap Order (sym h.4)))
fault_again version levels count kept (Unknown n) h = refused_at version levels count kept h.0 h.1 h.2 (Unknown n) h.3
    (not_known h.5 h.6 h.7 h.8 (ap Unknown (sym h.4)))
fault_again version levels count kept (Kind n) h =
    ap (λ r. on_ok r (closed count)) (after_blocks version levels kept h.0 (h.1 ∷ h.2 ∷ h.3) h.4)
    ∙ ap (λ r. on_ok (on_ok r (λ next. run version levels next.0 next.1 (h.2 ∷ h.3))) (closed count)) (step_level version h.1 h.6.1)
    ∙ ap (λ r. on_ok (on_ok {A = List Entry × Stage} (on_ok r (λ b. Ok (h.0, BodyDue h.6.0 b))) (λ next. run version levels next.0 next.1 h.3))
    (closed count)) (refuse_kind h.7)
    ∙ ap (λ k. Err (Kind k)) h.5
fault_again version levels count kept (Unclosed n) h =
    ap (λ r. on_ok r (closed count)) (after_blocks version levels kept h.0 h.1 h.2) ∙ unclosed_at version levels count h.0 h.1 h.3
    ∙ ap (λ k. Err (Unclosed k)) (sym h.4)
fault_again version levels count kept Memory h = absurd h
