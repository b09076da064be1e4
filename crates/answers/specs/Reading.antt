-- What reading gives, as functions of lists: in these words the functions of this crate that aren't public
-- say what they answer. `proofs/` shows that the functions read exactly what `Grammar` spells.
use Rattle.std.specs.Prelude.{◌≡◌, ◌≤◌, ℕ, suc, zero, ◌+◌, ◌-◌, ◌==◌, ◌&&◌, ◌||◌, nat_lt, nat_le, not, Bool, false, IfSome, List, [], ◌∷◌, ◌++◌, length, map, take, drop, fold, slice_index, Option, None, Some, option_map, Result, Ok, Err, if◌then◌else◌, codes}
use Rattle.std.specs.Option.{option_and_then}
use Rattle.std.specs.List.{list_all, prefix_len}
use Rattle.std.specs.Str.{bytes_eq}
use Rattle.std.specs.Char.{is_ascii_digit}
use Rattle.std.specs.Int.Digits.{number_from_digits}
use Rattle.lines.specs.Lines.{lines_in}
use Rattle.answers.specs.declared.pattern.Coord.{Coord}
use Rattle.answers.specs.declared.record.BadLineWhy.TheVariants.{Syntax, Count}
use Rattle.answers.specs.declared.fault.AnswersFault.{AnswersFault}
use Rattle.answers.specs.declared.fault.AnswersFault.TheVariants as fault
use Rattle.answers.specs.Grammar.{IsCell, IsCellList, Line, cell_text, cells_text, most_patterns, numeral, kept_lines}
use Rattle.answers.specs.Body.{PatternLine, ZoneLine, Body, LetterLines, PatternLines, OneZone, FirstBad, Entry}
use Rattle.answers.specs.FirstFault.{last_level}
use Rattle.answers.specs.declared.record_text.Kind.{Kind}
use Rattle.answers.specs.declared.record_text.Kind.TheVariants.{Solution, Unsolvable}
use Rattle.answers.specs.declared.record_text.RecordText.{RecordText}
use Rattle.answers.specs.Records.{body_lines}

infixl 10 ◌>>=◌
abbrev pub ◌>>=◌ : {A B : Type 0} → Option A → (A → Option B) → Option B
o >>= f = option_and_then f o

-- ---- numbers

-- Whether the text is decimal digits that don't begin with 0.
abbrev pub is_number : List ℕ → Bool
is_number text = nat_lt 0 (length text) && not (slice_index text 0 == 48) && list_all is_ascii_digit text

-- The number in these digits.
abbrev pub number_in : List ℕ → ℕ
number_in digits = number_from_digits 10 (map (λ b. b - 48) digits)

-- ---- what is read off the front of a text

-- The text goes on with the column or row n, and then with the rest.
pub record IsCoordinateBefore (text : List ℕ) (n : ℕ) (rest : List ℕ) : Type 0 where
  pub spelled : text ≡ numeral n ++ rest
  pub low : 1 ≤ n
  pub high : n ≤ 65535

pub record IsCellBefore (text : List ℕ) (cell : Coord) (rest : List ℕ) : Type 0 where
  pub spelled : text ≡ cell_text cell ++ rest
  pub lawful : IsCell cell

pub record AreCellsBefore (text : List ℕ) (cells : List Coord) (rest : List ℕ) : Type 0 where
  pub spelled : text ≡ cells_text cells ++ rest
  pub lawful : IsCellList cells

-- The text doesn't begin with a digit.
abbrev pub EndsNumber : List ℕ → Type 0
EndsNumber rest = is_ascii_digit (slice_index rest 0) ≡ false

-- The text is empty, or begins with a blank and `@`.
abbrev pub EndsCells : List ℕ → Type 0
EndsCells [] = Unit {0}
EndsCells (b ∷ rest) = (b ≡ 32) × (slice_index rest 0 ≡ 64)

-- What was taken is there, and if something is there, it was taken.
pub record Takes {A : Type 0} (IsThere : A → List ℕ → Type 0) (Ends : List ℕ → Type 0) (taken : Option (A × List ℕ)) : Type 0 where
  pub found : IfSome taken (λ t. IsThere t.0 t.1)
  pub only : (x : A) (rest : List ℕ) → IsThere x rest → Ends rest → taken ≡ Some (x, rest)

abbrev pub TakesCoordinate : List ℕ → Option (ℕ × List ℕ) → Type 0
TakesCoordinate text taken = Takes (IsCoordinateBefore text) EndsNumber taken

abbrev pub TakesCell : List ℕ → Option (Coord × List ℕ) → Type 0
TakesCell text taken = Takes (IsCellBefore text) EndsNumber taken

abbrev pub TakesCells : List ℕ → Option (List Coord × List ℕ) → Type 0
TakesCells text taken = Takes (AreCellsBefore text) EndsCells taken

-- ---- a line, read from its front

-- The bytes after this prefix, if the text begins with it.
abbrev pub after_prefix : List ℕ → List ℕ → Option (List ℕ)
after_prefix prefix text = if bytes_eq (take (length prefix) text) prefix then Some (drop (length prefix) text) else None

-- The column or the row with which the text begins, and the rest.
unfoldable pub coordinate_in : List ℕ → Option (ℕ × List ℕ)
coordinate_in text =
    let at = prefix_len is_ascii_digit text in
    if is_number (take at text) && nat_le (number_in (take at text)) 65535 then Some (number_in (take at text), drop at text)
    else None

unfoldable pub cell_in : List ℕ → Option (Coord × List ℕ)
cell_in text = do
  column ← coordinate_in text
  more ← after_prefix (codes ",") column.1
  row ← coordinate_in more
  Some (record { row = row.0; column = column.0 }, row.1)

-- Whether cell a comes before cell b.
abbrev pub is_before : Coord → Coord → Bool
is_before a b = nat_lt a.row b.row || ((a.row == b.row) && nat_lt a.column b.column)

-- The text after a blank with which it begins, if no `@` follows the blank.
unfoldable pub after_blank : List ℕ → Option (List ℕ)
after_blank text = do
  next ← after_prefix (codes " ") text
  if slice_index next 0 == 64 then None else Some next

abbrev pub some_or : {A B : Type 0} → B → (A → Option B) → Option A → Option B
some_or end more None = Some end
some_or end more (Some next) = more next

-- The cells so far, up to n cells more with which the text goes on after the last one, and the rest.
abbrev pub cells_from : ℕ → List Coord → Coord → List ℕ → Option (List Coord × List ℕ)
cells_from zero front last text = None
cells_from (suc n) front last text =
    cell_in text >>= λ t. if is_before last t.0
    then some_or (front ++ t.0 ∷ [], t.1) (λ next. cells_from n (front ++ t.0 ∷ []) t.0 next) (after_blank t.1) else None

-- No cell is before this one.
abbrev pub origin : Coord
origin = record { row = 0; column = 0 }

-- The cells with which the text begins, and the rest.
abbrev pub cells_in : List ℕ → Option (List Coord × List ℕ)
cells_in text = cells_from (length text) [] origin text

unfoldable pub all_cells_in : List ℕ → Option (List Coord)
all_cells_in text = do
  cells ← cells_in text
  if length cells.1 == 0 then Some cells.0 else None

unfoldable pub seeds_in : List ℕ → Option (Option (List Coord))
seeds_in text = if bytes_eq text (codes "*") then Some None else option_map Some (all_cells_in text)

unfoldable pub pattern_in : Line → Option PatternLine
pattern_in l = do
  text ← after_prefix (codes "pattern ") l.text
  boxes ← cells_in text
  rest ← after_prefix (codes " @ ") boxes.1
  seeds ← seeds_in rest
  Some (record { line = l.number; boxes = boxes.0; seeds = seeds })

unfoldable pub zone_in : Line → Option ZoneLine
zone_in l = do
  text ← after_prefix (codes "zone ") l.text
  cells ← all_cells_in text
  Some (record { line = l.number; cells = cells })

-- The digits of a level line.
unfoldable pub level_digits : List ℕ → Option (List ℕ)
level_digits text = do
  digits ← after_prefix (codes "level ") text
  if is_number digits then Some digits else None

-- ---- records

-- What is due: a level line, a kind line for this level, or body lines after this body.
pub data Stage : Type 0 where
  LevelDue : Stage
  KindDue : ℕ → Stage
  BodyDue : ℕ → Body → Stage

-- A chain of steps ends at the first fault.
abbrev pub on_ok : {A B : Type 0} → Result A AnswersFault → (A → Result B AnswersFault) → Result B AnswersFault
on_ok (Ok x) f = f x
on_ok (Err e) f = Err e

-- The level in the digits of a level line, if it may follow the last level.
abbrev pub level_in : ℕ → ℕ → ℕ → Option (List ℕ) → Result ℕ AnswersFault
level_in last levels n None = Err (fault.Level n)
level_in last levels n (Some digits) =
    if nat_le (number_in digits) last then Err (fault.Order n)
    else (if nat_lt levels (number_in digits) then Err (fault.Unknown n)
    else Ok (number_in digits))

unfoldable pub level_after : ℕ → ℕ → Line → Result ℕ AnswersFault
level_after last levels l = level_in last levels l.number (level_digits l.text)

-- The body after its kind line, with no body line yet.
unfoldable pub body_after : Line → Result Body AnswersFault
body_after l =
    if bytes_eq l.text (codes "solution") then Ok (LetterLines [])
    else (if bytes_eq l.text (codes "unsolvable") then Ok (PatternLines [])
    else Err (fault.Kind l.number))

-- The body of the patterns, and then the pattern of line n, if there is one.
abbrev pub with_pattern : List PatternLine → ℕ → Option PatternLine → Body
with_pattern patterns n None = FirstBad n Syntax
with_pattern patterns n (Some p) = if length patterns == most_patterns then FirstBad n Count else PatternLines (patterns ++ p ∷ [])

-- The body of the zone, if there is one; otherwise the body of the patterns and one line more.
abbrev pub with_line : Option ZoneLine → List PatternLine → Line → Body
with_line (Some zone) patterns l = OneZone zone
with_line None patterns l = with_pattern patterns l.number (pattern_in l)

-- The zone of a line, which is allowed first, in version 2.
unfoldable pub first_zone : ℕ → List PatternLine → Line → Option ZoneLine
first_zone version patterns l = if (version == 2) && (length patterns == 0) then zone_in l else None

-- The body after one line more.
unfoldable pub extended : ℕ → Body → Line → Body
extended version (LetterLines lines) l = LetterLines (lines ++ l.text ∷ [])
extended version (PatternLines patterns) l = with_line (first_zone version patterns l) patterns l
extended version (OneZone zone) l = FirstBad l.number Syntax
extended version (FirstBad n why) l = FirstBad n why

-- The body after more lines.
abbrev pub after_lines : ℕ → Body → List Line → Body
after_lines version b lines = fold (extended version) b lines

-- The body that a kind line opens.
abbrev pub opened : Kind → Body
opened Solution = LetterLines []
opened Unsolvable = PatternLines []

-- The entry that a record says.
abbrev pub entry_of : RecordText → Entry
entry_of r = record { level = r.level; body = after_lines r.version (opened r.kind) (body_lines r) }

-- The entries and what is due, after one line more.
abbrev pub step : ℕ → ℕ → List Entry → Stage → Line → Result (List Entry × Stage) AnswersFault
step version levels entries LevelDue l = on_ok (level_after (last_level entries) levels l) (λ n. Ok (entries, KindDue n))
step version levels entries (KindDue n) l = on_ok (body_after l) (λ b. Ok (entries, BodyDue n b))
step version levels entries (BodyDue n b) l =
    if bytes_eq l.text (codes "end") then Ok (entries ++ record { level = n; body = b } ∷ [], LevelDue)
    else Ok (entries, BodyDue n (extended version b l))

-- The entries and what is due, after more lines.
abbrev pub run : ℕ → ℕ → List Entry → Stage → List Line → Result (List Entry × Stage) AnswersFault
run version levels entries stage [] = Ok (entries, stage)
run version levels entries stage (l ∷ lines) = on_ok (step version levels entries stage l) (λ next. run version levels next.0 next.1 lines)

-- The entries, if no record is left open.
abbrev pub closed : ℕ → List Entry × Stage → Result (List Entry) AnswersFault
closed count (entries, LevelDue) = Ok entries
closed count (entries, KindDue n) = Err (fault.Unclosed (count + 1))
closed count (entries, BodyDue n b) = Err (fault.Unclosed (count + 1))

-- After the record of level `last`, the lines begin with this record's, and then comes the rest.
abbrev pub HasNextRecord : ℕ → ℕ → ℕ → List Line → RecordText → List Line → Type 0
HasNextRecord version levels last lines next rest = (entries : List Entry) → last_level entries ≡ last
    → run version levels entries LevelDue lines ≡ run version levels (entries ++ entry_of next ∷ []) LevelDue rest

-- After the record of level `last`, the last lines of a text with this number of lines have this fault first.
abbrev pub HasNextFault : ℕ → ℕ → ℕ → ℕ → List Line → AnswersFault → Type 0
HasNextFault version levels last count lines fault = (entries : List Entry) → last_level entries ≡ last
    → on_ok (run version levels entries LevelDue lines) (closed count) ≡ Err fault

-- The version of a header.
unfoldable pub version_in : List ℕ → Option ℕ
version_in text =
    if bytes_eq text (codes "sokoban-answers 1") then Some 1
    else (if bytes_eq text (codes "sokoban-answers 2") then Some 2
    else None)

-- The entries after a header of this version, in a text with this number of lines.
abbrev pub records_under : Option ℕ → ℕ → ℕ → List Line → Result (List Entry) AnswersFault
records_under None levels count kept = Err (fault.Header 1)
records_under (Some version) levels count kept = on_ok (run version levels [] LevelDue kept) (closed count)

abbrev pub header_of : List (List ℕ) → Option ℕ
header_of [] = None
header_of (first ∷ lines) = version_in first

-- The entries that a text spells, or its first fault.
abbrev pub outcome : List ℕ → ℕ → Result (List Entry) AnswersFault
outcome text levels =
    records_under (header_of (lines_in text)) levels (length (lines_in text)) (kept_lines text)

-- The result of a call, seen by `view`, is what reading gives, unless memory ran out.
abbrev pub Fails : {B : Type 0} → AnswersFault → Result B AnswersFault → Type 0
Fails fault.Memory given = Unit {0}
Fails f given = given ≡ Err f

abbrev pub Gives : {A B : Type 0} → (A → B) → Result A AnswersFault → Result B AnswersFault → Type 0
Gives view (Ok x) given = given ≡ Ok (view x)
Gives view (Err f) given = Fails f given
