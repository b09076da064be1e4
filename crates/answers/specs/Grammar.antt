-- The grammar of an answers text, in this project's own format: a header line, then records.
--
-- line       ends with LF, or with CR LF; bytes after the last LF are a line too
-- kept line  a line after the first that is neither empty nor begins with `;`
-- block      the kept lines of one record: `level N`, a kind line, body lines, `end`
-- entry      what a block says of a level (`Body.antt`)
-- version    1 or 2, by the header; a zone is of version 2 alone
--
-- `SpellsEntries` says that a text spells a list of entries: its kept lines are the blocks of these, in order.
use Rattle.std.specs.Prelude.{◌≡◌, ◌≢◌, ℕ, ◌+◌, ◌<◌, ◌≤◌, ◌⊎◌, ◌==◌, ◌&&◌, not, nat_lt, Bool, List, [], ◌∷◌, ◌++◌, length, map, filter, sum_by, drop, slice_index, Option, None, Some, codes}
use Rattle.std.specs.List.{AllByRecursion, join_with_byte}
use Rattle.std.specs.Int.Digits.{digits_of}
use Rattle.lines.specs.Lines.{lines_in}
use Rattle.answers.specs.declared.pattern.Coord.{Coord}
use Rattle.answers.specs.declared.pattern.Pattern.{Pattern}
use Rattle.answers.specs.declared.pattern.Seeds.{Seeds}
use Rattle.answers.specs.declared.pattern.Seeds.TheVariants.{Room, Cells}
use Rattle.answers.specs.declared.pattern.Zone.{Zone}
use Rattle.answers.specs.declared.record.BadLineWhy.TheVariants.{Syntax, Count}
use Rattle.answers.specs.declared.record.Record.{Record}
use Rattle.answers.specs.declared.record.Record.TheVariants as record_is
use Rattle.answers.specs.declared.record.Answers.{Answers}
use Rattle.answers.specs.Body.{PatternLine, ZoneLine, Body, LetterLines, PatternLines, OneZone, FirstBad, Entry}

-- ---- what a value of Rust says

abbrev pub said_seeds : Seeds → Option (List Coord)
said_seeds Room = None
said_seeds (Cells cells) = Some cells.items

abbrev pub said_pattern : Pattern → PatternLine
said_pattern p = record { line = p.line; boxes = p.boxes.items; seeds = said_seeds p.seeds }

abbrev pub said_zone : Zone → ZoneLine
said_zone z = record { line = z.line; cells = z.cells.items }

abbrev pub said_body : Record → Body
said_body (record_is.Solution lines) = LetterLines (map (λ l. l.now) lines.items)
said_body (record_is.Patterns patterns) = PatternLines (map said_pattern patterns.items)
said_body (record_is.Zone zone) = OneZone (said_zone zone)
said_body (record_is.BadLine line why) = FirstBad line why

abbrev pub said_record : ℕ × Record → Entry
said_record r = record { level = r.0; body = said_body r.1 }

abbrev pub said_answers : Answers → List Entry
said_answers a = map said_record a.records.items

-- ---- lines

-- A line and its number, from 1.
pub record Line : Type 0 where
  pub number : ℕ
  pub text : List ℕ

-- The lines with their numbers, from n on.
abbrev pub numbered : ℕ → List (List ℕ) → List Line
numbered n [] = []
numbered n (l ∷ ls) = record { number = n; text = l } ∷ numbered (n + 1) ls

-- Whether a line is neither empty nor a comment, which begins with `;`.
abbrev pub is_kept : Line → Bool
is_kept l = nat_lt 0 (length l.text) && not (slice_index l.text 0 == 59)

-- The kept lines of a text, without its first line.
abbrev pub kept_lines : List ℕ → List Line
kept_lines text = filter is_kept (drop 1 (numbered 1 (lines_in text)))

-- ---- what lines say

-- A number in decimal digits, with no zero in front.
abbrev pub numeral : ℕ → List ℕ
numeral n = map (λ d. 48 + d) (digits_of 10 n)

-- The header: `sokoban-answers 1` or `sokoban-answers 2`.
abbrev pub header_text : ℕ → List ℕ
header_text version = codes "sokoban-answers " ++ numeral version

abbrev pub level_text : ℕ → List ℕ
level_text n = codes "level " ++ numeral n

-- The text of a cell: its column, a comma, its row.
abbrev pub cell_text : Coord → List ℕ
cell_text c = numeral c.column ++ codes "," ++ numeral c.row

-- The text of cells, with a space between each two.
abbrev pub cells_text : List Coord → List ℕ
cells_text cells = join_with_byte 32 (map cell_text cells)

-- The text of seeds: `*`, or cells.
abbrev pub seeds_text : Option (List Coord) → List ℕ
seeds_text None = codes "*"
seeds_text (Some cells) = cells_text cells

abbrev pub pattern_text : PatternLine → List ℕ
pattern_text p = codes "pattern " ++ cells_text p.boxes ++ codes " @ " ++ seeds_text p.seeds

abbrev pub zone_text : ZoneLine → List ℕ
zone_text z = codes "zone " ++ cells_text z.cells

-- A text can spell the column and the row of the cell.
pub record IsCell (c : Coord) : Type 0 where
  pub column_low : 1 ≤ c.column
  pub column_high : c.column ≤ 65535
  pub row_low : 1 ≤ c.row
  pub row_high : c.row ≤ 65535

-- Cell a comes before cell b in reading order: by row, then by column.
abbrev pub IsBefore : Coord → Coord → Type 0
IsBefore a b = (a.row < b.row) ⊎ ((a.row ≡ b.row) × (a.column < b.column))

-- The cells are strictly in reading order.
abbrev pub AreInOrder : List Coord → Type 0
AreInOrder [] = Unit {0}
AreInOrder (c ∷ []) = Unit {0}
AreInOrder (c ∷ d ∷ cells) = IsBefore c d × AreInOrder (d ∷ cells)

-- The list has one or more cells, in reading order.
pub record IsCellList (cells : List Coord) : Type 0 where
  pub some : 0 < length cells
  pub each : AllByRecursion IsCell cells
  pub order : AreInOrder cells

abbrev pub AreSeeds : Option (List Coord) → Type 0
AreSeeds None = Unit {0}
AreSeeds (Some cells) = IsCellList cells

-- A line can spell the pattern.
pub record IsPattern (p : PatternLine) : Type 0 where
  pub boxes : IsCellList p.boxes
  pub seeds : AreSeeds p.seeds

-- A line can spell the zone.
abbrev pub IsZone : ZoneLine → Type 0
IsZone z = IsCellList z.cells

-- The lines of patterns and zones.
abbrev pub line_of_pattern : PatternLine → Line
line_of_pattern p = record { number = p.line; text = pattern_text p }

abbrev pub line_of_zone : ZoneLine → Line
line_of_zone z = record { number = z.line; text = zone_text z }

abbrev pub SpellsPattern : List ℕ → Type 0
SpellsPattern text = (p : PatternLine) × IsPattern p × (text ≡ pattern_text p)

abbrev pub SpellsZone : List ℕ → Type 0
SpellsZone text = (z : ZoneLine) × IsZone z × (text ≡ zone_text z)

-- ---- bodies

-- The largest number of patterns in a record.
abbrev pub most_patterns : ℕ
most_patterns = 65536

-- The lines are pattern lines, and spell these patterns.
pub record ArePatternLines (lines : List Line) (patterns : List PatternLine) : Type 0 where
  pub spelled : lines ≡ map line_of_pattern patterns
  pub each : AllByRecursion IsPattern patterns

-- Line n follows at most 65,536 pattern lines and is no pattern line. Nor is it a zone line in the one place where
-- that is allowed: first, in version 2.
pub record HasStrayLine (version : ℕ) (body : List Line) (n : ℕ) : Type 0 where
  pub before : List Line
  pub patterns : List PatternLine
  pub stray : List ℕ
  pub after : List Line
  pub split : body ≡ before ++ record { number = n; text = stray } ∷ after
  pub spelled : ArePatternLines before patterns
  pub few : length patterns ≤ most_patterns
  pub no_pattern : ¬ SpellsPattern stray
  pub no_zone : version ≡ 2 → before ≡ [] → ¬ SpellsZone stray

-- In version 2, line n follows a zone line that comes first.
pub record GoesOnAfterZone (version : ℕ) (body : List Line) (n : ℕ) : Type 0 where
  pub two : version ≡ 2
  pub zone : ZoneLine
  pub next : List ℕ
  pub after : List Line
  pub split : body ≡ line_of_zone zone ∷ record { number = n; text = next } ∷ after
  pub lawful : IsZone zone

-- Line n is one more pattern line after 65,536 of them.
pub record HasOneTooMany (body : List Line) (n : ℕ) : Type 0 where
  pub before : List Line
  pub patterns : List PatternLine
  pub excess : PatternLine
  pub after : List Line
  pub split : body ≡ before ++ line_of_pattern excess ∷ after
  pub spelled : ArePatternLines before patterns
  pub full : length patterns ≡ most_patterns
  pub lawful : IsPattern excess
  pub number : excess.line ≡ n

-- The body of an `unsolvable` block says this.
abbrev pub IsCertificate : ℕ → List Line → Body → Type 0
IsCertificate version body (LetterLines lines) = ⊥
IsCertificate version body (PatternLines patterns) = ArePatternLines body patterns × (length patterns ≤ most_patterns)
IsCertificate version body (OneZone zone) = (version ≡ 2) × IsZone zone × (body ≡ line_of_zone zone ∷ [])
IsCertificate version body (FirstBad n Syntax) = HasStrayLine version body n ⊎ GoesOnAfterZone version body n
IsCertificate version body (FirstBad n Count) = HasOneTooMany body n

-- The body of a block with this kind line says this.
abbrev pub IsBody : ℕ → List ℕ → List Line → Body → Type 0
IsBody version kind lines body =
    ((kind ≡ codes "solution") × (body ≡ LetterLines (map (λ l. l.text) lines)))
    ⊎ ((kind ≡ codes "unsolvable") × IsCertificate version lines body)

-- ---- records

-- None of the lines is `end`.
abbrev pub NoneEnds : List Line → Type 0
NoneEnds lines = AllByRecursion (λ l. l.text ≢ codes "end") lines

-- The lines are the block of the entry.
pub record IsBlock (version : ℕ) (block : List Line) (entry : Entry) : Type 0 where
  pub level : Line
  pub kind : Line
  pub lines : List Line
  pub last : Line
  pub split : block ≡ level ∷ kind ∷ (lines ++ last ∷ [])
  pub number : level.text ≡ level_text entry.level
  pub says : IsBody version kind.text lines entry.body
  pub goes_on : NoneEnds lines
  pub ends : last.text ≡ codes "end"

-- The lines are the blocks of the entries, in order.
abbrev pub AreBlocks : ℕ → List Line → List Entry → Type 0
AreBlocks version lines [] = lines ≡ []
AreBlocks version lines (e ∷ es) = (block rest : List Line) × (lines ≡ block ++ rest) × IsBlock version block e × AreBlocks version rest es

-- The numbers of the levels rise strictly, the first is above `low`, and none is above `high`.
abbrev pub RiseWithin : ℕ → ℕ → List Entry → Type 0
RiseWithin low high [] = Unit {0}
RiseWithin low high (e ∷ es) = (low < e.level) × (e.level ≤ high) × RiseWithin e.level high es

-- The first line is the header of this version.
pub record HasHeader (text : List ℕ) (version : ℕ) : Type 0 where
  pub known : (version ≡ 1) ⊎ (version ≡ 2)
  pub others : List (List ℕ)
  pub first : lines_in text ≡ header_text version ∷ others

-- The text spells these entries, for this number of levels.
pub record SpellsEntries (text : List ℕ) (levels : ℕ) (entries : List Entry) : Type 0 where
  pub version : ℕ
  pub header : HasHeader text version
  pub blocks : AreBlocks version (kept_lines text) entries
  pub rise : RiseWithin 0 levels entries

-- The letter lines of a record, if it has some, are together no longer than this.
abbrev pub HasLettersWithin : ℕ → Record → Type 0
HasLettersWithin most (record_is.Solution lines) = sum_by (λ line. length line.now) lines.items ≤ most
HasLettersWithin most (record_is.Patterns patterns) = Unit {0}
HasLettersWithin most (record_is.Zone zone) = Unit {0}
HasLettersWithin most (record_is.BadLine line why) = Unit {0}
