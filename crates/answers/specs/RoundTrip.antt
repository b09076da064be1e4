-- Which records the canonical text spells, and when entries say the same as records.
--
-- letter     one of the eight of a solution
-- lawful     the numbers of the levels rise from at least 1, and each record is one that a text can spell
-- same       the same levels, the same joined letters, the same patterns and zones; line numbers don't count
use Rattle.std.specs.Prelude.{ℕ, ◌≡◌, ◌<◌, ◌≤◌, List, [], ◌∷◌, Option, map, length, codes, Contains}
use Rattle.std.specs.List.{AllByRecursion, concat}
use Rattle.answers.specs.declared.pattern.Coord.{Coord}
use Rattle.answers.specs.declared.record.MadeBody.{MadeBody}
use Rattle.answers.specs.declared.record.MadeBody.TheVariants.{Letters, Patterns, Zone}
use Rattle.answers.specs.declared.record.MadeRecord.{MadeRecord}
use Rattle.answers.specs.Grammar.{IsPattern, IsZone, most_patterns, said_pattern, said_zone}
use Rattle.answers.specs.Body.{Body, Entry, LetterLines, OneZone, PatternLine, PatternLines}

-- The byte is one of the eight letters.
abbrev pub IsLetter : ℕ → Type 0
IsLetter b = Contains (codes "lurdLURD") b

-- A text can spell the body.
abbrev pub IsLawfulBody : MadeBody → Type 0
IsLawfulBody (Letters letters) = AllByRecursion IsLetter letters.now
IsLawfulBody (Patterns patterns) = (length patterns.items ≤ most_patterns)
    × AllByRecursion (λ p. IsPattern (said_pattern p)) patterns.items
IsLawfulBody (Zone zone) = IsZone (said_zone zone)

-- The numbers of the levels rise from above `low`, none is above `high`, and a text can spell the bodies.
abbrev pub AreLawfulRecords : ℕ → ℕ → List MadeRecord → Type 0
AreLawfulRecords low high [] = Unit {0}
AreLawfulRecords low high (r ∷ rs) = (low < r.level) × (r.level ≤ high) × IsLawfulBody r.body
    × AreLawfulRecords r.level high rs

-- The boxes and seeds of a pattern, without its line.
abbrev pub boxes_and_seeds : PatternLine → List Coord × Option (List Coord)
boxes_and_seeds p = (p.boxes, p.seeds)

-- The body says the same as the made body.
abbrev pub SaysBody : MadeBody → Body → Type 0
SaysBody (Letters letters) (LetterLines lines) = concat lines ≡ letters.now
SaysBody (Patterns patterns) (PatternLines said) = map boxes_and_seeds said ≡ map (λ p. boxes_and_seeds (said_pattern p)) patterns.items
SaysBody (Zone zone) (OneZone said) = said.cells ≡ zone.cells.items
SaysBody _ _ = ⊥

-- The entries say the same as the records.
abbrev pub SaysSame : List MadeRecord → List Entry → Type 0
SaysSame [] [] = Unit {0}
SaysSame (r ∷ rs) (e ∷ es) = (e.level ≡ r.level) × SaysBody r.body e.body × SaysSame rs es
SaysSame _ _ = ⊥
