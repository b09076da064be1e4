-- The canonical text of records: a header, and then the lines of each record, in order.
--
-- header   of version 2 if some record holds a zone, otherwise of version 1
-- record   its level line, its kind line, its body lines, `end`
-- letters  in lines of 70; the last may be shorter, and without letters there is no line
--
-- Each line ends with LF. Lines are spelled as the grammar spells them; the number 0 has no digits, and no record
-- that can be spelled has a 0.
use Rattle.std.specs.Prelude.{ℕ, zero, suc, None, ◌+◌, ◌/◌, Bool, true, false, if◌then◌else◌, List, [], ◌∷◌, ◌++◌, map, length, take, drop, codes}
use Rattle.std.specs.List.{flat_map, list_any}
use Rattle.answers.specs.declared.pattern.Coord.{Coord}
use Rattle.answers.specs.declared.pattern.Pattern.{Pattern}
use Rattle.answers.specs.declared.record.MadeBody.{MadeBody}
use Rattle.answers.specs.declared.record.MadeBody.TheVariants.{Letters, Patterns, Zone}
use Rattle.answers.specs.declared.record.MadeRecord.{MadeRecord}
use Rattle.answers.specs.Body.{PatternLine}
use Rattle.answers.specs.Grammar.{header_text, level_text, pattern_text, zone_text, said_pattern, said_zone}

-- The first lines of the letters, 70 in each, up to a count.
abbrev pub lines_of_70 : ℕ → List ℕ → List (List ℕ)
lines_of_70 zero letters = []
lines_of_70 (suc count) letters = take 70 letters ∷ lines_of_70 count (drop 70 letters)

-- The letters in lines of 70. The last line may be shorter, and without letters there is no line.
abbrev pub letter_lines : List ℕ → List (List ℕ)
letter_lines letters = lines_of_70 ((length letters + 69) / 70) letters

-- The line of a made pattern.
abbrev pub line_of_made : Pattern → List ℕ
line_of_made p = pattern_text (said_pattern p)

-- The kind line and the body lines of a made record.
abbrev pub made_lines : MadeBody → List (List ℕ)
made_lines (Letters letters) = codes "solution" ∷ letter_lines letters.now
made_lines (Patterns patterns) = codes "unsolvable" ∷ map line_of_made patterns.items
made_lines (Zone zone) = codes "unsolvable" ∷ zone_text (said_zone zone) ∷ []

-- The lines of a record of this level that has these lines between its level line and its `end`.
abbrev pub lines_with : ℕ → List (List ℕ) → List (List ℕ)
lines_with level lines = level_text level ∷ (lines ++ codes "end" ∷ [])

-- The lines of a made record.
abbrev pub record_lines : MadeRecord → List (List ℕ)
record_lines r = lines_with r.level (made_lines r.body)

-- The made pattern of some boxes: on line 0, with the seeds `*`.
abbrev pub made_pattern : List Coord → PatternLine
made_pattern boxes = record { line = 0; boxes = boxes; seeds = None }

-- The made patterns of one box each, on these cells.
abbrev pub lone_patterns : List Coord → List PatternLine
lone_patterns cells = map (λ c. made_pattern (c ∷ [])) cells

-- The made pattern of all of these boxes, if there are any.
abbrev pub last_pattern : List Coord → List PatternLine
last_pattern [] = []
last_pattern (c ∷ boxes) = made_pattern (c ∷ boxes) ∷ []

-- The patterns of a list: a made pattern of one box for each of the first cells, and a last one of all other boxes, if there are any.
abbrev pub list_patterns : List Coord → List Coord → List PatternLine
list_patterns cells last = lone_patterns cells ++ last_pattern last

-- The line of the made pattern of one box.
abbrev pub lone_line : Coord → List ℕ
lone_line c = pattern_text (made_pattern (c ∷ []))

-- The kind line and the body lines of the record of a list.
abbrev pub list_lines : List Coord → List Coord → List (List ℕ)
list_lines cells last = codes "unsolvable" ∷ map pattern_text (list_patterns cells last)

-- The kind line and the body line of the record of a zone.
abbrev pub zone_lines : List Coord → List (List ℕ)
zone_lines cells = codes "unsolvable" ∷ zone_text (record { line = 0; cells = cells }) ∷ []

-- Whether the body is a zone.
abbrev pub holds_zone : MadeBody → Bool
holds_zone (Letters letters) = false
holds_zone (Patterns patterns) = false
holds_zone (Zone zone) = true

-- Whether some record holds a zone.
abbrev pub some_zone : List MadeRecord → Bool
some_zone records = list_any (λ r. holds_zone r.body) records

-- The version of the text: 2 if some record holds a zone, otherwise 1.
abbrev pub version_of : List MadeRecord → ℕ
version_of records = if some_zone records then 2 else 1

-- The header and the lines of all records.
abbrev pub canonical_lines : List MadeRecord → List (List ℕ)
canonical_lines records = header_text (version_of records) ∷ flat_map record_lines records

-- A line with its line feed.
abbrev pub ended : List ℕ → List ℕ
ended line = line ++ 10 ∷ []

-- The text of a record of this level that has these lines between its level line and its `end`, without a header.
abbrev pub text_with : ℕ → List (List ℕ) → List ℕ
text_with level lines = flat_map ended (lines_with level lines)

-- The text of one record, without a header.
abbrev pub record_text : MadeRecord → List ℕ
record_text r = text_with r.level (made_lines r.body)

-- The text of the header, by whether some record holds a zone.
abbrev pub header_line : Bool → List ℕ
header_line zones = ended (header_text (if zones then 2 else 1))

-- The canonical text of the records.
abbrev pub canonical : List MadeRecord → List ℕ
canonical records = flat_map ended (canonical_lines records)
