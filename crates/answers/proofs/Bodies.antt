-- The body of an `unsolvable` block says what its lines come to, read one after the other. In one direction, each
-- further line keeps the rule, by what the body said so far: patterns, a zone, or a bad line. In the other, the lines
-- that the rule names come to what it says: pattern lines add up, a zone line that comes first is the zone, a stray
-- line or one too many is the bad line, and after a bad line nothing changes.
use Rattle.std.proofs.Common.{◌≡◌, ◌≢◌, ℕ, ◌+◌, ◌≤◌, Bool, false, cond, eqb, List, [], ◌∷◌, ◌++◌, length, map, Option, Some, None, refl, sym, ap, subst, ◌∙◌, arith, inl, inr, ⊎_elim, append_assoc, length-append}
use Rattle.std.specs.List.{AllByRecursion}
use Rattle.std.proofs.lemmas.Bool.{and_right, cases_Bool, eqb-true, eq-eqb, ne_eqb, eqb-false}
use Rattle.std.proofs.lemmas.List.{append-nil, map-append, length-map}
use Rattle.std.proofs.lemmas.Grind.{fold-append}
use Rattle.answers.specs.declared.record.BadLineWhy.{BadLineWhy}
use Rattle.answers.specs.declared.record.BadLineWhy.TheVariants.{Syntax, Count}
use Rattle.answers.specs.Grammar.{Line, line_of_pattern, line_of_zone, IsPattern, IsZone, SpellsPattern, SpellsZone, most_patterns, ArePatternLines, IsCertificate}
use Rattle.answers.specs.Body.{PatternLine, ZoneLine, Body, LetterLines, PatternLines, OneZone, FirstBad}
use Rattle.answers.specs.Reading.{pattern_in, zone_in, with_pattern, with_line, first_zone, extended, after_lines}
use Rattle.answers.proofs.LineTexts.{pattern_found, pattern_again, no_pattern, zone_found, zone_again, no_zone}

-- ---- one line more

nothing_before : {body : List Line} (patterns : List PatternLine) → ArePatternLines body patterns → length patterns ≡ 0 → body ≡ []
nothing_before [] h e = h.spelled
nothing_before (p ∷ patterns) h e = absurd (omega arith)

Each-append : (xs ys : List PatternLine) → AllByRecursion IsPattern xs → AllByRecursion IsPattern ys → AllByRecursion IsPattern (xs ++ ys)
Each-append [] ys h k = k
Each-append (x ∷ xs) ys h k = search (Each-append xs ys h.1 k)

-- no zone line was found
abbrev LacksZone : ℕ → List PatternLine → Line → Type 0
LacksZone version patterns l = version ≡ 2 → length patterns ≡ 0 → zone_in l ≡ None

data ZoneCase (version : ℕ) (patterns : List PatternLine) (l : Line) : Type 0 where
  found : (z : ZoneLine) → version ≡ 2 → length patterns ≡ 0 → zone_in l ≡ Some z → first_zone version patterns l ≡ Some z → ZoneCase version patterns l
  lacks : LacksZone version patterns l → first_zone version patterns l ≡ None → ZoneCase version patterns l

zone_by : {version : ℕ} {patterns : List PatternLine} {l : Line} (o : Option ZoneLine) → zone_in l ≡ o → version ≡ 2 → length patterns ≡ 0
    → ZoneCase version patterns l
unfolding first_zone
zone_by None e two none = grind (arith, eq-eqb)
zone_by {version} {patterns} (Some z) e two none = found z two none e (rw (eq-eqb version 2 two, eq-eqb (length patterns) 0 none) e)

zone_case : (version : ℕ) (patterns : List PatternLine) (l : Line) → ZoneCase version patterns l
unfolding first_zone
zone_case version patterns l = ⊎_elim
    (λ two. ⊎_elim
    (λ none. zone_by (zone_in l) refl (eqb-true version 2 two) (eqb-true (length patterns) 0 none))
    (λ some. lacks (λ _ e. absurd (eqb-false (length patterns) 0 some e)) (rw (some, and_right (eqb version 2) false refl) refl))
    (cases_Bool (eqb (length patterns) 0)))
    (λ one. lacks (λ e _. absurd (eqb-false version 2 one e)) (rw one refl)) (cases_Bool (eqb version 2))

pattern_more : {version : ℕ} {body : List Line} {patterns : List PatternLine} (l : Line) (o : Option PatternLine) → pattern_in l ≡ o
    → ArePatternLines body patterns → length patterns ≤ most_patterns → LacksZone version patterns l
    → IsCertificate version (body ++ l ∷ []) (with_pattern patterns l.number o)
pattern_more {body} {patterns} l None e h few zone = inl (record {
  before = body;
  patterns = patterns;
  stray = l.text;
  after = [];
  split = refl;
  spelled = h;
  few = few;
  no_pattern = no_pattern l e;
  no_zone = λ two none. no_zone l (zone two (no_patterns body patterns h none));
})
  where
    no_patterns : (body : List Line) (patterns : List PatternLine) → ArePatternLines body patterns → body ≡ [] → length patterns ≡ 0
    no_patterns body patterns h none = sym (length-map patterns line_of_pattern) ∙ ap length (sym h.spelled) ∙ ap length none
pattern_more {version} {body} {patterns} l (Some p) e h few zone =
    let line = pattern_found l p e in
    grind (arith, eqb-true, eqb-false, map-append, Each-append, cases_Bool, length-append)

patterns_more : (version : ℕ) (body : List Line) (patterns : List PatternLine) (l : Line) → ZoneCase version patterns l
    → ArePatternLines body patterns → length patterns ≤ most_patterns → IsCertificate version (body ++ l ∷ []) (extended version (PatternLines patterns) l)
unfolding extended
patterns_more version body patterns l (found z two none read e) h few =
    let line = zone_found read in
    let first : body ++ l ∷ [] ≡ line_of_zone z ∷ [] = ap (λ x. x ++ l ∷ []) (nothing_before patterns h none) ∙ ap (λ x. x ∷ []) line.same in
    grind arith
patterns_more version body patterns l (lacks zone e) h few =
    subst (λ o. IsCertificate version (body ++ l ∷ []) (with_line o patterns l)) (sym e) (pattern_more l (pattern_in l) refl h few zone)

more_after : {body : List Line} (front : List Line) (x l : Line) (after : List Line) → body ≡ front ++ x ∷ after → body ++ l ∷ [] ≡ front ++ x ∷ (after ++ l ∷ [])
more_after front x l after e = grind (arith, append_assoc)

-- a certificate with one line more says what it said, extended by the line
pub certificate_more : (version : ℕ) (body : List Line) (b : Body) (l : Line) → IsCertificate version body b
    → IsCertificate version (body ++ l ∷ []) (extended version b l)
unfolding extended
certificate_more version body (LetterLines lines) l h = h
certificate_more version body (PatternLines patterns) l h = search (patterns_more, zone_case)
certificate_more version body (OneZone zone) l h = inr (record {
  two = h.0;
  zone = zone;
  next = l.text;
  after = [];
  split = ap (λ b. b ++ l ∷ []) h.2;
  lawful = h.1;
})
certificate_more version body (FirstBad n Syntax) l (inl h) = inl (record {
  before = h.before;
  patterns = h.patterns;
  stray = h.stray;
  after = h.after ++ l ∷ [];
  split = more_after {body = body} h.before (record { number = n; text = h.stray }) l h.after h.split;
  spelled = h.spelled;
  few = h.few;
  no_pattern = h.no_pattern;
  no_zone = h.no_zone;
})
certificate_more version body (FirstBad n Syntax) l (inr h) = grind arith
certificate_more version body (FirstBad n Count) l h = record {
  before = h.before;
  patterns = h.patterns;
  excess = h.excess;
  after = h.after ++ l ∷ [];
  split = more_after h.before (line_of_pattern h.excess) l h.after h.split;
  spelled = h.spelled;
  full = h.full;
  lawful = h.lawful;
  number = h.number;
}

-- ---- lines one after the other

-- a certificate says what its lines come to
pub certificate_found : (version : ℕ) (lines done : List Line) (b : Body) → IsCertificate version done b
    → IsCertificate version (done ++ lines) (after_lines version b lines)
certificate_found version [] done b h = search (append-nil)
certificate_found version (l ∷ lines) done b h =
    grind (arith, certificate_more, certificate_found version lines (done ++ l ∷ []) (extended version b l) (certificate_more version done b l h), append_assoc)

after_bad : (version : ℕ) (n : ℕ) (why : BadLineWhy) (lines : List Line) → after_lines version (FirstBad n why) lines ≡ FirstBad n why
unfolding extended
after_bad version n why [] = refl
after_bad version n why (l ∷ lines) = after_bad version n why lines

no_zone_at : (version : ℕ) (patterns : List PatternLine) (l : Line) → LacksZone version patterns l → first_zone version patterns l ≡ None
no_zone_at version patterns l vain = grind (arith, zone_case)

pattern_at : {version : ℕ} (before : List PatternLine) (l : Line) → LacksZone version before l
    → extended version (PatternLines before) l ≡ with_pattern before l.number (pattern_in l)
unfolding extended
pattern_at before l vain = search (no_zone_at)

pattern_is_no_zone : (p : PatternLine) → zone_in (line_of_pattern p) ≡ None
unfolding zone_in
pattern_is_no_zone p = refl

after_patterns : (version : ℕ) (patterns before : List PatternLine) → AllByRecursion IsPattern patterns → length before + length patterns ≤ most_patterns
    → after_lines version (PatternLines before) (map line_of_pattern patterns) ≡ PatternLines (before ++ patterns)
after_patterns version [] before h few = search (append-nil)
after_patterns version (p ∷ patterns) before h few =
    grind (arith, pattern_at, pattern_is_no_zone, pattern_again, ne_eqb, after_patterns version patterns (before ++ p ∷ []) h.1 (omega (arith, length-append before (p ∷ []))), length-append, append_assoc)

from_patterns : (version : ℕ) {lines : List Line} {patterns : List PatternLine} → ArePatternLines lines patterns → length patterns ≤ most_patterns
    → after_lines version (PatternLines []) lines ≡ PatternLines patterns
from_patterns version h few = grind (arith, after_patterns)

not_read : (l : Line) → ¬ SpellsPattern l.text → (o : Option PatternLine) → pattern_in l ≡ o → pattern_in l ≡ None
not_read l none None e = e
not_read l none (Some p) e = let line = pattern_found l p e in absurd (none (p, line.lawful, ap (λ x. x.text) line.same))

zone_not_read : (l : Line) → ¬ SpellsZone l.text → (o : Option ZoneLine) → zone_in l ≡ o → zone_in l ≡ None
zone_not_read l none None e = e
zone_not_read l none (Some z) e = let line = zone_found {l = l} {z = z} e in absurd (none (z, line.lawful, ap (λ x. x.text) line.same))

after_front : (version : ℕ) (front after : List Line) (x : Line) (lines : List Line) → lines ≡ front ++ x ∷ after
    → after_lines version (PatternLines []) lines ≡ after_lines version (extended version (after_lines version (PatternLines []) front) x) after
after_front version front after x lines e = grind (arith, fold-append)

zone_first : {version : ℕ} {zone : ZoneLine} → version ≡ 2 → IsZone zone → first_zone version [] (line_of_zone zone) ≡ Some zone
unfolding first_zone
zone_first two lawful = search (eq-eqb, zone_again)

-- the lines of a certificate come to what it says
pub certificate_again : (version : ℕ) (lines : List Line) (b : Body) → IsCertificate version lines b → after_lines version (PatternLines []) lines ≡ b
unfolding extended
certificate_again version lines (LetterLines letters) h = absurd h
certificate_again version lines (PatternLines patterns) h = from_patterns version h.0 h.1
certificate_again version lines (OneZone zone) h = grind (arith, zone_first)
certificate_again version lines (FirstBad n Syntax) (inl h) =
    let stray : Line = record { number = n; text = h.stray } in
    let zone : LacksZone version h.patterns stray = λ two none. zone_not_read stray (h.no_zone two (nothing_before h.patterns h.spelled none))
    (zone_in stray) refl in
    let bad : extended version (PatternLines h.patterns) stray ≡ FirstBad n Syntax = grind (arith, pattern_at, not_read) in
    after_front version h.before h.after stray lines h.split
    ∙ ap (λ b. after_lines version (extended version b stray) h.after) (from_patterns version h.spelled h.few)
    ∙ ap (λ b. after_lines version b h.after) bad ∙ after_bad version n Syntax h.after
certificate_again version lines (FirstBad n Syntax) (inr h) =
    let next : Line = record { number = n; text = h.next } in
    let read : first_zone version [] (line_of_zone h.zone) ≡ Some h.zone = zone_first h.two h.lawful in
    ap (after_lines version (PatternLines [])) h.split ∙ ap (λ o. after_lines version (with_line o [] (line_of_zone h.zone)) (next ∷ h.after)) read
    ∙ after_bad version n Syntax h.after
certificate_again version lines (FirstBad n Count) h =
    let x = line_of_pattern h.excess in
    let bad : extended version (PatternLines h.patterns) x ≡ FirstBad n Count = grind (arith, pattern_at, pattern_is_no_zone, pattern_again, eq-eqb) in
    after_front version h.before h.after x lines h.split
    ∙ ap (λ b. after_lines version (extended version b x) h.after) (from_patterns version h.spelled (omega arith))
    ∙ ap (λ b. after_lines version b h.after) bad ∙ after_bad version n Count h.after

-- ---- a certificate that is read line by line

pub after_zone : (version : ℕ) (zone : ZoneLine) {l : Line} {rest all : List Line} → all ≡ l ∷ rest
    → after_lines version (OneZone zone) all ≡ FirstBad l.number Syntax
unfolding extended
after_zone version zone {l} {rest} e = ap (after_lines version (OneZone zone)) e ∙ after_bad version l.number Syntax rest

-- the next line after some patterns
module _ (version : ℕ) (patterns : List PatternLine) (l : Line) (rest all : List Line) (is : all ≡ l ∷ rest) where
  abbrev come_to : Body → Type 0
  come_to b = after_lines version (PatternLines patterns) all ≡ b

  next_is : {b : Body} → extended version (PatternLines patterns) l ≡ b → come_to (after_lines version b rest)
  next_is e = search

  pub zone_next : {zone : ZoneLine} → first_zone version patterns l ≡ Some zone → come_to (after_lines version (OneZone zone) rest)
  unfolding extended
  zone_next e = search

  module _ (none : first_zone version patterns l ≡ None) where
    read_as : {o : Option PatternLine} → pattern_in l ≡ o → extended version (PatternLines patterns) l ≡ with_pattern patterns l.number o
    unfolding extended
    read_as e = search

    pub stray_next : pattern_in l ≡ None → come_to (FirstBad l.number Syntax)
    stray_next e = next_is (read_as e) ∙ after_bad version l.number Syntax rest

    module _ (p : PatternLine) (read : pattern_in l ≡ Some p) where
      pattern_or_excess : {b : Bool} → eqb (length patterns) most_patterns ≡ b
          → extended version (PatternLines patterns) l ≡ cond b (FirstBad l.number Count) (PatternLines (patterns ++ p ∷ []))
      pattern_or_excess e = read_as read ∙ ap (λ x. cond x (FirstBad l.number Count) (PatternLines (patterns ++ p ∷ []))) e

      pub excess_next : length patterns ≡ most_patterns → come_to (FirstBad l.number Count)
      excess_next full = next_is (pattern_or_excess (eq-eqb (length patterns) most_patterns full)) ∙ after_bad version l.number Count rest

      pub pattern_next : length patterns ≢ most_patterns → come_to (after_lines version (PatternLines (patterns ++ p ∷ [])) rest)
      pattern_next few = next_is (pattern_or_excess (ne_eqb (length patterns) most_patterns few))
