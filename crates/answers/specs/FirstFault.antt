-- The first fault of an answers text that spells no records: the first line that breaks the grammar. Before it are
-- whole records, or whole records and a level line. A text whose lines are all in place, but which ends inside a
-- record, is unclosed.
use Rattle.std.specs.Prelude.{◌≡◌, ℕ, ◌+◌, ◌<◌, ◌≤◌, ◌⊎◌, List, [], ◌∷◌, ◌++◌, length, codes}
use Rattle.lines.specs.Lines.{lines_in}
use Rattle.answers.specs.declared.fault.AnswersFault.{AnswersFault}
use Rattle.answers.specs.declared.fault.AnswersFault.TheVariants.{Header, Level, Order, Unknown, Kind, Unclosed, Memory}
use Rattle.answers.specs.Grammar.{Line, kept_lines, level_text, AreBlocks, RiseWithin, NoneEnds, HasHeader}
use Rattle.answers.specs.Body.{Entry}

-- The lines are the blocks of these entries, and then the rest.
pub record BeginsWith (version levels : ℕ) (lines : List Line) (entries : List Entry) (rest : List Line)
    : Type 0 where
  pub front : List Line
  pub split : lines ≡ front ++ rest
  pub blocks : AreBlocks version front entries
  pub rise : RiseWithin 0 levels entries

-- The number of the level of the last record, or 0 if there is no record.
abbrev pub last_level : List Entry → ℕ
last_level [] = 0
last_level (e ∷ []) = e.level
last_level (e ∷ d ∷ es) = last_level (d ∷ es)

-- The text is the level line of this number.
pub record IsLevelLine (text : List ℕ) (n : ℕ) : Type 0 where
  pub low : 1 ≤ n
  pub spelled : text ≡ level_text n

-- The text is the level line of this number, which may follow the entries.
pub record IsNextLevel (entries : List Entry) (levels : ℕ) (text : List ℕ) (n : ℕ) : Type 0 where
  pub line : IsLevelLine text n
  pub above : last_level entries < n
  pub known : n ≤ levels

-- The text is one of the two kind lines.
abbrev pub IsKind : List ℕ → Type 0
IsKind text = (text ≡ codes "solution") ⊎ (text ≡ codes "unsolvable")

-- The lines are a record that isn't closed: its level line, or its level line, a kind line, and lines other than `end`.
abbrev pub IsUnclosed : List Entry → ℕ → List Line → Type 0
IsUnclosed entries levels [] = ⊥
IsUnclosed entries levels (l ∷ []) = (n : ℕ) × IsNextLevel entries levels l.text n
IsUnclosed entries levels (l ∷ k ∷ lines) = ((n : ℕ) × IsNextLevel entries levels l.text n) × IsKind k.text × NoneEnds lines

-- This is the fault of the kept lines, in a text with this number of lines.
abbrev pub IsLineFault : ℕ → ℕ → List Line → ℕ → AnswersFault → Type 0
IsLineFault version levels kept count (Header n) = ⊥
IsLineFault version levels kept count (Level n) =
    (entries : List Entry) × (line : Line) × (rest : List Line)
    × BeginsWith version levels kept entries (line ∷ rest) × (line.number ≡ n)
    × ((m : ℕ) → ¬ IsLevelLine line.text m)
IsLineFault version levels kept count (Order n) =
    (entries : List Entry) × (line : Line) × (rest : List Line)
    × BeginsWith version levels kept entries (line ∷ rest) × (line.number ≡ n)
    × (m : ℕ) × IsLevelLine line.text m × (m ≤ last_level entries)
IsLineFault version levels kept count (Unknown n) =
    (entries : List Entry) × (line : Line) × (rest : List Line)
    × BeginsWith version levels kept entries (line ∷ rest) × (line.number ≡ n)
    × (m : ℕ) × IsLevelLine line.text m × (last_level entries < m) × (levels < m)
IsLineFault version levels kept count (Kind n) =
    (entries : List Entry) × (level line : Line) × (rest : List Line)
    × BeginsWith version levels kept entries (level ∷ line ∷ rest) × (line.number ≡ n)
    × ((m : ℕ) × IsNextLevel entries levels level.text m) × ¬ IsKind line.text
IsLineFault version levels kept count (Unclosed n) =
    (entries : List Entry) × (rest : List Line) × BeginsWith version levels kept entries rest
    × IsUnclosed entries levels rest × (n ≡ count + 1)
IsLineFault version levels kept count Memory = ⊥

-- This is the first fault of the text, for this number of levels: its first line is absent or no header, or the fault is the fault of
-- the kept lines.
abbrev pub IsFirstAnswersFault : List ℕ → ℕ → AnswersFault → Type 0
IsFirstAnswersFault text levels fault = (((version : ℕ) → ¬ HasHeader text version) × (fault ≡ Header 1))
    ⊎ ((version : ℕ) × HasHeader text version
    × IsLineFault version levels (kept_lines text) (length (lines_in text)) fault)
