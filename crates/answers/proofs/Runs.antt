-- Reading line by line, against the grammar's division into blocks. In one direction, the lines read so far are always
-- whole blocks and an open one, and each further line keeps that: a level line opens a block, `end` closes it, and the
-- lines between say what the body comes to. A fault comes at the line that the rule names, and a text that ends well
-- has no open block.
use Rattle.std.proofs.Common.{◌≡◌, ℕ, ◌<◌, ◌≤◌, ◌⊎◌, Bool, true, false, cond, List, [], ◌∷◌, ◌++◌, map, Result, Ok, Err, refl, sym, ap, subst, ◌∙◌, arith, inl, inr, ⊎_elim, append_assoc}
use Rattle.std.specs.Prelude.{codes}
use Rattle.std.specs.Str.{bytes_eq}
use Rattle.std.proofs.lemmas.List.{append-nil}
use Rattle.std.proofs.lemmas.Slice.Eq.{bytes_eq-Decides}
use Rattle.answers.specs.declared.fault.AnswersFault.{AnswersFault}
use Rattle.answers.specs.Grammar.{Line, IsBody, NoneEnds, IsBlock, AreBlocks, RiseWithin}
use Rattle.answers.specs.Body.{Entry, Body}
use Rattle.answers.specs.FirstFault.{BeginsWith, last_level, IsNextLevel, IsKind, IsLineFault}
use Rattle.answers.specs.Reading.{on_ok, level_after, body_after, extended, Stage, LevelDue, KindDue, BodyDue, step, run, closed}
use Rattle.answers.proofs.DueLines.{went_on, went_wrong, level_taken, IsLevelRefused, no_line, not_above, not_known, level_refused, Opens, solution, certificate, kind_taken, kind_refused, differs}
use Rattle.answers.proofs.Bodies.{certificate_more}
use Rattle.answers.proofs.KeptLines.{NoneEnds-append}

-- ---- blocks and bodies, one more

AreBlocks-push : {version : ℕ} (front : List Line) (entries : List Entry) {block : List Line} {e : Entry} → AreBlocks version front entries
    → IsBlock version block e → AreBlocks version (front ++ block) (entries ++ e ∷ [])
AreBlocks-push front [] h last = grind (arith, append-nil)
AreBlocks-push front (d ∷ entries) {block} h last = grind (arith, AreBlocks-push h.1 entries h.4 last, append_assoc)

-- the level of the last entry, or `low` if there is no entry
last_after : ℕ → List Entry → ℕ
last_after low [] = low
last_after low (e ∷ es) = last_after e.level es

last_is : (e : Entry) (es : List Entry) → last_level (e ∷ es) ≡ last_after e.level es
unfolding last_after
last_is e [] = refl
last_is e (d ∷ es) = last_is d es

last_level_is : (es : List Entry) → last_level es ≡ last_after 0 es
unfolding last_after
last_level_is [] = refl
last_level_is (e ∷ es) = last_is e es

last_after-push : (low : ℕ) (es : List Entry) (e : Entry) → last_after low (es ++ e ∷ []) ≡ e.level
unfolding last_after
last_after-push low [] e = refl
last_after-push low (d ∷ es) e = last_after-push d.level es e

pub last_level-push : (es : List Entry) (e : Entry) → last_level (es ++ e ∷ []) ≡ e.level
last_level-push es e = search (last_level_is, last_after-push)

rise_more : (low : ℕ) {high : ℕ} (es : List Entry) (e : Entry) → RiseWithin low high es → last_after low es < e.level → e.level ≤ high
    → RiseWithin low high (es ++ e ∷ [])
unfolding last_after
rise_more low [] e h over within = (over, within, tt)
rise_more low (d ∷ es) e h over within = search (rise_more d.level es e h.2 over within)

RiseWithin-push : {high : ℕ} (es : List Entry) (e : Entry) → RiseWithin 0 high es → last_level es < e.level → e.level ≤ high → RiseWithin 0 high (es ++ e ∷ [])
RiseWithin-push es e h over within = grind (arith, rise_more, last_level_is)

texts-push : (lines : List Line) (l : Line) → map (λ l. l.text) (lines ++ l ∷ []) ≡ map (λ l. l.text) lines ++ l.text ∷ []
texts-push [] l = refl
texts-push (x ∷ lines) l = search (texts-push lines l)

-- what a body says, and one line more
body_more : (version : ℕ) {kind : List ℕ} (lines : List Line) {b : Body} (l : Line) → IsBody version kind lines b
    → IsBody version kind (lines ++ l ∷ []) (extended version b l)
unfolding extended
body_more version lines l (inl h) = grind (arith, texts-push)
body_more version lines l (inr h) = grind (arith, certificate_more)

-- ---- what has been read

-- the lines that were read are whole blocks and the open one that the stage is in
abbrev pub Reached : ℕ → ℕ → List Entry → Stage → List Line → Type 0
Reached version levels entries LevelDue done = BeginsWith version levels done entries []
Reached version levels entries (KindDue n) done = (level : Line) × BeginsWith version levels done entries (level ∷ []) × IsNextLevel entries levels level.text n
Reached version levels entries (BodyDue n b) done = (level kind : Line) × (lines : List Line) × BeginsWith version levels done entries (level ∷ kind ∷ lines)
    × IsNextLevel entries levels level.text n × IsBody version kind.text lines b × NoneEnds lines

-- lines that begin with whole blocks still do with more lines at their end
begins_more : {version levels : ℕ} {done : List Line} {entries : List Entry} {rest : List Line} (more : List Line) → BeginsWith version levels done entries rest
    → BeginsWith version levels (done ++ more) entries (rest ++ more)
begins_more {rest} more h = grind (arith, append_assoc)

opened : (version : ℕ) (text : List ℕ) (b : Body) → Opens text b → IsBody version text [] b
opened version text b (solution kind said) = inl (kind, said)
opened version text b (certificate kind said) = grind arith

ended : (version levels : ℕ) (done : List Line) (entries : List Entry) (n : ℕ) (b : Body) (l : Line) → l.text ≡ codes "end"
    → Reached version levels entries (BodyDue n b) done → Reached version levels (entries ++ record { level = n; body = b } ∷ []) LevelDue (done ++ l ∷ [])
ended version levels done entries n b l is h =
    let front = h.3.front in
    let block = h.0 ∷ h.1 ∷ (h.2 ++ l ∷ []) in
    let e : Entry = record { level = n; body = b } in
    let whole : IsBlock version block e = grind arith in
    record {
      front = front ++ block;
      split = ap (λ x. x ++ l ∷ []) h.3.split ∙ append_assoc front (h.0 ∷ h.1 ∷ h.2) (l ∷ []) ∙ sym (append-nil (front ++ block));
      blocks = AreBlocks-push front entries h.3.blocks whole;
      rise = RiseWithin-push entries e h.3.rise h.4.above h.4.known;
    }

pub same_Err : {A : Type 0} {x y : AnswersFault} → ◌≡◌ {A = Result A AnswersFault} (Err x) (Err y) → x ≡ y
same_Err e = cc

pub ok_no_err : {A : Type 0} {x : A} {f : AnswersFault} → ◌≡◌ {A = Result A AnswersFault} (Ok x) (Err f) → ⊥
ok_no_err e = cc

pub same_Ok : {A : Type 0} {x y : A} → ◌≡◌ {A = Result A AnswersFault} (Ok x) (Ok y) → x ≡ y
same_Ok e = cc

either : {A : Type 0} (b : Bool) {x y z : A} → ◌≡◌ {A = Result A AnswersFault} (cond b (Ok x) (Ok y)) (Ok z) → ((b ≡ true) × (x ≡ z)) ⊎ ((b ≡ false) × (y ≡ z))
either true e = inl (refl, cc)
either false e = inr (refl, cc)

-- if a line was taken, the lines read are whole blocks and the open one that the new stage is in
pub step_found : (version levels : ℕ) (done : List Line) (entries : List Entry) (stage : Stage) (l : Line) {next : List Entry × Stage}
    → Reached version levels entries stage done → step version levels entries stage l ≡ Ok next → Reached version levels next.0 next.1 (done ++ l ∷ [])
step_found version levels done entries LevelDue l {next} h e =
    let a = went_on (level_after (last_level entries) levels l) {f = (λ n. Ok (entries, KindDue n))} {y = next} e in
    let line = level_taken (last_level entries) levels l a.0 a.1 in
    let now : Reached version levels entries (KindDue a.0) (done ++ l ∷ []) = (
      l,
      begins_more (l ∷ []) h,
      record { line = line.line; above = line.above; known = line.known },
    ) in
    subst (λ x. Reached version levels x.0 x.1 (done ++ l ∷ [])) (same_Ok a.2) now
step_found version levels done entries (KindDue n) l h e =
    let a = went_on (body_after l) e in
    let now : Reached version levels entries (BodyDue n a.0) (done ++ l ∷ []) = (
      h.0,
      l,
      [],
      begins_more (l ∷ []) h.1,
      h.2,
      opened version l.text a.0 (kind_taken l a.0 a.1),
      tt,
    ) in
    subst (λ x. Reached version levels x.0 x.1 (done ++ l ∷ [])) (same_Ok a.2) now
step_found version levels done entries (BodyDue n b) l h e = ⊎_elim
    (λ c. rw (← c.1) (ended version levels done entries n b l ((bytes_eq-Decides l.text (codes "end")).0 c.0) h))
    (λ c.
    let now : Reached version levels entries (BodyDue n (extended version b l)) (done ++ l ∷ []) = (
      h.0,
      h.1,
      h.2 ++ l ∷ [],
      begins_more (l ∷ []) h.3,
      h.4,
      body_more version h.2 l h.5,
      NoneEnds-append h.2 (l ∷ []) h.6 (differs c.0, tt),
    ) in
    rw (← c.1) now)
    (either (bytes_eq l.text (codes "end")) e)

-- if more lines were taken, the lines read are whole blocks and the open one that the new stage is in
pub run_found : (version levels : ℕ) (lines done : List Line) (entries : List Entry) (stage : Stage) {next : List Entry × Stage}
    → Reached version levels entries stage done → run version levels entries stage lines ≡ Ok next → Reached version levels next.0 next.1 (done ++ lines)
run_found version levels [] done entries stage h e = grind (arith, same_Ok, append-nil)
run_found version levels (l ∷ lines) done entries stage {next} h e =
    let a = went_on (step version levels entries stage l) e in
    grind (arith, step_found, run_found version levels lines (done ++ l ∷ []) a.0.0 a.0.1 (step_found version levels done entries stage l h a.1) a.2, append_assoc)

-- ---- where reading stops

level_fault : {version levels : ℕ} {kept : List Line} (count : ℕ) {entries : List Entry} {l : Line} {rest : List Line} {f : AnswersFault}
    → BeginsWith version levels kept entries (l ∷ rest) → IsLevelRefused (last_level entries) levels l f → IsLineFault version levels kept count f
level_fault count h (no_line none e) = grind arith
level_fault count h (not_above n line under e) = grind arith
level_fault count h (not_known n line over past e) = grind arith

no_end_fault : {A : Type 0} (b : Bool) (x y : A) (f : AnswersFault) → cond b (Ok x) (Ok y) ≡ Err f → ⊥
no_end_fault true x y f e = cc
no_end_fault false x y f e = cc

-- a fault at a line is the fault of the kept lines
step_fault : (version levels count : ℕ) (done : List Line) (entries : List Entry) (stage : Stage) (l : Line) (rest : List Line) {f : AnswersFault}
    → Reached version levels entries stage done → step version levels entries stage l ≡ Err f → IsLineFault version levels (done ++ l ∷ rest) count f
step_fault version levels count done entries LevelDue l rest {f} h e = ⊎_elim
    (λ bad. level_fault count (begins_more {version = version} {levels = levels} {done = done} {entries = entries} {rest = []} (l ∷ rest) h)
    (level_refused (last_level entries) levels l f bad))
    (λ good. absurd (ok_no_err good.2)) (went_wrong (level_after (last_level entries) levels l) e)
step_fault version levels count done entries (KindDue n) l rest {f} h e = ⊎_elim
    (λ bad.
    let k = kind_refused l f bad in
    rw k.1 (entries, h.0, l, rest, begins_more (l ∷ rest) h.1, refl, (n, h.2), k.0))
    (λ good. absurd (ok_no_err good.2)) (went_wrong (body_after l) e)
step_fault version levels count done entries (BodyDue n b) l rest h e = search (no_end_fault)

pub run_fault : (version levels count : ℕ) (lines done : List Line) (entries : List Entry) (stage : Stage) {f : AnswersFault}
    → Reached version levels entries stage done → run version levels entries stage lines ≡ Err f → IsLineFault version levels (done ++ lines) count f
run_fault version levels count [] done entries stage h e = search (ok_no_err)
run_fault version levels count (l ∷ lines) done entries stage {f} h e = ⊎_elim
    (λ bad. step_fault version levels count done entries stage l lines h bad)
    (λ good. grind (arith, step_found, run_fault version levels count lines (done ++ l ∷ []) good.0.0 good.0.1 (step_found version levels done entries stage l h good.1) good.2, append_assoc))
    (went_wrong (step version levels entries stage l) e)

kind_known : (version : ℕ) (text : List ℕ) (lines : List Line) (b : Body) → IsBody version text lines b → IsKind text
kind_known version text lines b (inl h) = inl h.0
kind_known version text lines b (inr h) = inr h.0

closed_fault : (version levels count : ℕ) (kept : List Line) (last : List Entry × Stage) {f : AnswersFault} → Reached version levels last.0 last.1 kept
    → closed count last ≡ Err f → IsLineFault version levels kept count f
closed_fault version levels count kept (entries, LevelDue) h e = absurd (ok_no_err e)
closed_fault version levels count kept (entries, KindDue n) h e = grind (arith, same_Err)
closed_fault version levels count kept (entries, BodyDue n b) h e = grind (arith, same_Err, kind_known)

closed_found : {version levels : ℕ} (count : ℕ) {kept : List Line} (last : List Entry × Stage) {entries : List Entry} → Reached version levels last.0 last.1 kept
    → closed count last ≡ Ok entries → BeginsWith version levels kept entries []
closed_found count (es, LevelDue) h e = grind (arith, same_Ok)
closed_found count (es, KindDue n) h e = grind (arith, ok_no_err)
closed_found count (es, BodyDue n b) h e = grind (arith, ok_no_err)

nothing_yet : (version levels : ℕ) → Reached version levels [] LevelDue []
nothing_yet version levels = grind arith

-- kept lines spell the entries that reading gives
pub kept_found : (version levels count : ℕ) (kept : List Line) {entries : List Entry} → on_ok (run version levels [] LevelDue kept) (closed count) ≡ Ok entries
    → AreBlocks version kept entries × RiseWithin 0 levels entries
kept_found version levels count kept e =
    let a = went_on (run version levels [] LevelDue kept) e in
    let last = closed_found count a.0 (run_found version levels kept [] [] LevelDue (nothing_yet version levels) a.1) a.2 in
    (rw (sym (last.split ∙ append-nil last.front)) at last.blocks, last.rise)

-- a fault that reading gives is the fault of the kept lines
pub kept_fault : (version levels count : ℕ) (kept : List Line) {f : AnswersFault} → on_ok (run version levels [] LevelDue kept) (closed count) ≡ Err f
    → IsLineFault version levels kept count f
kept_fault version levels count kept e = ⊎_elim
    (λ bad. run_fault version levels count kept [] [] LevelDue (nothing_yet version levels) bad)
    (λ good. closed_fault version levels count kept good.0 (run_found version levels kept [] [] LevelDue (nothing_yet version levels) good.1) good.2)
    (went_wrong (run version levels [] LevelDue kept) e)
