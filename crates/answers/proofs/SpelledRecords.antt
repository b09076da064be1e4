-- The canonical text spells its records. Its lines are plain, so they are the lines of the text, and all lines after the header are
-- kept. The lines of a record are a block of the entry that says what the record says, with its line numbers. Blocks follow one
-- another, and their levels rise because the levels of the records do. A text with a zone has version 2, because the header has that
-- version if some record holds a zone.
use Rattle.std.proofs.Common.{◌≡◌, ◌≢◌, ℕ, ◌+◌, ◌⊎◌, Bool, true, false, ◌||◌, if◌then◌else◌, List, [], ◌∷◌, ◌++◌, length, map, refl, arith, inl, inr, codes, lit<}
use Rattle.std.specs.List.{AllByRecursion, flat_map, list_any}
use Rattle.answers.specs.declared.pattern.Pattern.{Pattern}
use Rattle.answers.specs.declared.record.MadeBody.{MadeBody}
use Rattle.answers.specs.declared.record.MadeBody.TheVariants as made_is
use Rattle.answers.specs.declared.record.MadeRecord.{MadeRecord}
use Rattle.answers.specs.Canonical.{made_lines, canonical, canonical_lines, holds_zone, letter_lines, line_of_made, record_lines, version_of}
use Rattle.answers.specs.Grammar.{AreBlocks, IsBlock, IsBody, IsPattern, NoneEnds, RiseWithin, SpellsEntries, kept_lines, level_text, line_of_pattern, numbered, said_pattern, said_seeds, said_zone, zone_text}
use Rattle.answers.specs.Body.{Body, Entry, LetterLines, OneZone, PatternLine, PatternLines, ZoneLine}
use Rattle.answers.specs.RoundTrip.{AreLawfulRecords, IsLawfulBody, SaysBody, SaysSame, boxes_and_seeds}
use Rattle.answers.proofs.KeptLines.{numbered-append}
use Rattle.answers.proofs.PlainLines.{IsPlainLine, all_kept, lines_again, plain_header, plain_level, plain_pattern, plain_zone}
use Rattle.answers.proofs.SolutionLines.{letter_lines-go_on, letter_lines-join, letter_lines-plain}

-- ---- the entries

-- the patterns on lines from n on, one after another
abbrev pub patterns_from : ℕ → List Pattern → List PatternLine
patterns_from n [] = []
patterns_from n (p ∷ ps) = record { line = n; boxes = p.boxes.items; seeds = said_seeds p.seeds } ∷ patterns_from (n + 1) ps

-- what a made body says if its lines after the kind line are numbered from n on
abbrev pub body_from : ℕ → MadeBody → Body
body_from n (made_is.Letters letters) = LetterLines (letter_lines letters.now)
body_from n (made_is.Patterns patterns) = PatternLines (patterns_from n patterns.items)
body_from n (made_is.Zone zone) = OneZone (record { line = n; cells = zone.cells.items })

-- the entries of made records if their lines are numbered from n on
abbrev pub entries_from : ℕ → List MadeRecord → List Entry
entries_from n [] = []
entries_from n (r ∷ rs) = record { level = r.level; body = body_from (n + 1 + 1) r.body } ∷ entries_from (n + length (record_lines r)) rs

-- ---- they say the same

patterns_same : (n : ℕ) (ps : List Pattern) → map boxes_and_seeds (patterns_from n ps) ≡ map (λ p. boxes_and_seeds (said_pattern p)) ps
patterns_same n [] = refl
patterns_same n (p ∷ ps) = search (patterns_same (n + 1) ps)

body_same : (n : ℕ) (b : MadeBody) → SaysBody b (body_from n b)
body_same n (made_is.Letters letters) = letter_lines-join letters.now
body_same n (made_is.Patterns patterns) = patterns_same n patterns.items
body_same n (made_is.Zone zone) = refl

pub entries_same : (n : ℕ) (rs : List MadeRecord) → SaysSame rs (entries_from n rs)
entries_same n [] = tt
entries_same n (r ∷ rs) = search (body_same, entries_same (n + length (record_lines r)) rs)

-- the levels of the entries rise because the levels of the records do
pub entries_rise : (n low high : ℕ) (rs : List MadeRecord) → AreLawfulRecords low high rs → RiseWithin low high (entries_from n rs)
entries_rise n low high [] h = tt
entries_rise n low high (r ∷ rs) h = search (entries_rise (n + length (record_lines r)) r.level high rs h.3)

-- ---- numbered lines

texts_of : (n : ℕ) (xs : List (List ℕ)) → map (λ l. l.text) (numbered n xs) ≡ xs
texts_of n [] = refl
texts_of n (x ∷ xs) = search (texts_of (n + 1) xs)

none_ends : (n : ℕ) (xs : List (List ℕ)) → AllByRecursion (λ x. x ≢ codes "end") xs → NoneEnds (numbered n xs)
none_ends n [] h = tt
none_ends n (x ∷ xs) h = search (none_ends (n + 1) xs h.1)

-- ---- the lines of a certificate

zone_is_no_end : (z : ZoneLine) → zone_text z ≢ codes "end"
zone_is_no_end z e = grind arith

patterns_go_on : (ps : List Pattern) → AllByRecursion (λ x. x ≢ codes "end") (map line_of_made ps)
patterns_go_on [] = tt
patterns_go_on (p ∷ ps) = grind (arith, patterns_go_on ps)

patterns_plain : (ps : List Pattern) → AllByRecursion IsPlainLine (map line_of_made ps)
patterns_plain [] = tt
patterns_plain (p ∷ ps) = search (plain_pattern, patterns_plain ps)

patterns_spelled : (n : ℕ) (ps : List Pattern) → numbered n (map line_of_made ps) ≡ map line_of_pattern (patterns_from n ps)
patterns_spelled n [] = refl
patterns_spelled n (p ∷ ps) = search (patterns_spelled (n + 1) ps)

patterns_lawful : (n : ℕ) (ps : List Pattern) → AllByRecursion (λ p. IsPattern (said_pattern p)) ps → AllByRecursion IsPattern (patterns_from n ps)
patterns_lawful n [] h = tt
patterns_lawful n (p ∷ ps) h = search (patterns_lawful (n + 1) ps h.1)

patterns_count : (n : ℕ) (ps : List Pattern) → length (patterns_from n ps) ≡ length ps
patterns_count n [] = refl
patterns_count n (p ∷ ps) = search (patterns_count (n + 1) ps)

-- ---- blocks

a_block : (version n level : ℕ) (kind : List ℕ) (lines : List (List ℕ)) (body : Body) → IsBody version kind (numbered (n + 1 + 1) lines) body
    → AllByRecursion (λ x. x ≢ codes "end") lines
    → IsBlock version (numbered n (level_text level ∷ kind ∷ (lines ++ codes "end" ∷ []))) (record { level = level; body = body })
a_block version n level kind lines body says on = grind (arith, numbered-append, none_ends)

record_block : {version : ℕ} (n level : ℕ) (b : MadeBody) → IsLawfulBody b → (holds_zone b ≡ true → version ≡ 2)
    → IsBlock version (numbered n (level_text level ∷ (made_lines b ++ codes "end" ∷ []))) (record { level = level; body = body_from (n + 1 + 1) b })
record_block n level (made_is.Letters letters) h two = grind (arith, a_block, texts_of, letter_lines-go_on)
record_block n level (made_is.Patterns patterns) h two = grind (arith, patterns_count, patterns_spelled, patterns_lawful, a_block, patterns_go_on)
record_block {version} n level (made_is.Zone zone) h two =
    a_block version n level (codes "unsolvable") (zone_text (said_zone zone) ∷ []) _ (inr (refl, (two refl, h, refl))) (zone_is_no_end (said_zone zone), tt)

-- the version is 2 if some record holds a zone
abbrev pub SuitsZones : ℕ → List MadeRecord → Type 0
SuitsZones version rs = AllByRecursion (λ r. holds_zone r.body ≡ true → version ≡ 2) rs

pub record_blocks : (version n low high : ℕ) (rs : List MadeRecord) → AreLawfulRecords low high rs → SuitsZones version rs
    → AreBlocks version (numbered n (flat_map record_lines rs)) (entries_from n rs)
record_blocks version n low high [] h zones = refl
record_blocks version n low high (r ∷ rs) h zones =
    let next = n + length (record_lines r) in (
      numbered n (record_lines r),
      numbered next (flat_map record_lines rs),
      numbered-append n (record_lines r) (flat_map record_lines rs),
      record_block n r.level r.body h.2 zones.0,
      record_blocks version next r.level high rs h.3 zones.1,
    )

-- ---- the version

any_head : (a b : Bool) → a ≡ true → (a || b) ≡ true
any_head true b h = refl
any_head false b h = absurd cc

any_tail : (a : Bool) {b : Bool} → b ≡ true → (a || b) ≡ true
any_tail true h = refl
any_tail false h = h

suits : {version : ℕ} (rs : List MadeRecord) → (list_any (λ r. holds_zone r.body) rs ≡ true → version ≡ 2) → SuitsZones version rs
suits [] h = tt
suits (r ∷ rs) h =
    let some = list_any (λ r. holds_zone r.body) rs in
    grind (arith, any_head, any_tail, suits rs (λ (e : some ≡ true). h (any_tail (holds_zone r.body) e)))

version_two : (rs : List MadeRecord) → list_any (λ r. holds_zone r.body) rs ≡ true → version_of rs ≡ 2
version_two rs e = search

version_known : (b : Bool) → (let v : ℕ = if b then 2 else 1 in (v ≡ 1) ⊎ (v ≡ 2))
version_known true = inr refl
version_known false = inl refl

-- ---- the text

plain_all : (xs ys : List (List ℕ)) → AllByRecursion IsPlainLine xs → AllByRecursion IsPlainLine ys → AllByRecursion IsPlainLine (xs ++ ys)
plain_all [] ys h k = k
plain_all (x ∷ xs) ys h k = search (plain_all xs ys h.1 k)

body_plain : (b : MadeBody) → IsLawfulBody b → AllByRecursion IsPlainLine (made_lines b)
body_plain (made_is.Letters letters) h = grind (arith, letter_lines-plain)
body_plain (made_is.Patterns patterns) h = grind (arith, patterns_plain)
body_plain (made_is.Zone zone) h = (record { some = lit< tt; plain = refl }, (plain_zone (said_zone zone), tt))

records_plain : (low high : ℕ) (rs : List MadeRecord) → AreLawfulRecords low high rs → AllByRecursion IsPlainLine (flat_map record_lines rs)
records_plain low high [] h = tt
records_plain low high (r ∷ rs) h =
    let end : AllByRecursion IsPlainLine (codes "end" ∷ []) = (record { some = lit< tt; plain = refl }, tt) in
    plain_all (record_lines r) (flat_map record_lines rs) (plain_level r.level, plain_all (made_lines r.body) (codes "end" ∷ []) (body_plain r.body h.2) end)
    (records_plain r.level high rs h.3)

pub canonical_spells : (rs : List MadeRecord) {levels : ℕ} → AreLawfulRecords 0 levels rs → SpellsEntries (canonical rs) levels (entries_from 2 rs)
canonical_spells rs {levels} h =
    let plain = records_plain 0 levels rs h in
    let lines = lines_again (canonical_lines rs) (plain_header (version_of rs), plain) in
    let kept : kept_lines (canonical rs) ≡ numbered 2 (flat_map record_lines rs) = grind (arith, all_kept) in
    record {
      version = version_of rs;
      header = record { known = version_known (list_any (λ r. holds_zone r.body) rs); others = flat_map record_lines rs; first = lines };
      blocks = rw kept (record_blocks (version_of rs) 2 0 levels rs h (suits rs (version_two rs)));
      rise = entries_rise 2 0 levels rs h;
    }
