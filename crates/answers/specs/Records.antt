-- The records of a text as they are there, not yet read.
--
-- body lines   the kept lines between the kind line of a record and its `end`
-- says         what the grammar reads in the body lines under the kind line, in the version of the text
-- place        where the record is: how many bytes the text has from its level line on, after its kind line, from its `end` on, and after that;
--              and the number of the line after its kind line
use Rattle.std.specs.Prelude.{◌≡◌, ℕ, ◌+◌, List, [], ◌∷◌, codes, length}
use Rattle.lines.specs.Lines.{IsFirstLine, IsLineCut, lines_in}
use Rattle.answers.specs.declared.record_text.Kind.{Kind}
use Rattle.answers.specs.declared.record_text.Kind.TheVariants.{Solution, Unsolvable}
use Rattle.answers.specs.declared.record_text.RecordText.{RecordText}
use Rattle.answers.specs.Grammar.{HasHeader, IsBody, Line, NoneEnds, level_text}
use Rattle.answers.specs.Body.{Body, Entry}
use Rattle.answers.specs.Held.{IsNextKept, kept_after, kept_in}

abbrev pub kind_line : Kind → List ℕ
kind_line Solution = codes "solution"
kind_line Unsolvable = codes "unsolvable"

abbrev pub body_lines : RecordText → List Line
body_lines r = kept_in r.lines

-- The record says this of its level.
abbrev pub SaysOfLevel : RecordText → Body → Type 0
SaysOfLevel r body = IsBody r.version (kind_line r.kind) (body_lines r) body

-- The entries are what the records say, in order.
abbrev pub AreEntriesOf : List RecordText → List Entry → Type 0
AreEntriesOf [] [] = Unit {0}
AreEntriesOf (r ∷ rs) (e ∷ es) = (e.level ≡ r.level) × SaysOfLevel r e.body × AreEntriesOf rs es
AreEntriesOf _ _ = ⊥

-- After this number of lines, the first record of the bytes is this one. `from` begins with its level line, `kind_from` with its kind line,
-- `inside` with its body, which is `text`, and `last` with its `end`.
pub record IsNextRecord (version before : ℕ) (bytes : List ℕ) (r : RecordText) (after : List ℕ) (next : ℕ) : Type 0 where
  pub from : List ℕ
  pub below : List ℕ
  pub below_lines : ℕ
  pub kind_from : List ℕ
  pub inside : List ℕ
  pub inside_lines : ℕ
  pub text : List ℕ
  pub last : List ℕ
  pub version_is : r.version ≡ version
  pub level_is : IsNextKept before bytes from (level_text r.level) below below_lines
  pub kind_is : IsNextKept below_lines below kind_from (kind_line r.kind) inside inside_lines
  pub cut : IsLineCut inside text last
  pub body : body_lines r ≡ kept_after inside_lines text
  pub goes_on : NoneEnds (body_lines r)
  pub ends : IsFirstLine last (codes "end") after
  pub number : next ≡ inside_lines + length (lines_in text) + 1
  pub place : r.place ≡ record { level = length from; body = length inside; line = inside_lines + 1; end = length last; after = length after }

-- After this number of lines, the bytes have these records, in order.
abbrev pub AreRecordsFrom : ℕ → ℕ → List ℕ → List RecordText → Type 0
AreRecordsFrom version before bytes [] = kept_after before bytes ≡ []
AreRecordsFrom version before bytes (r ∷ rs) =
    (after : List ℕ) × (next : ℕ) × IsNextRecord version before bytes r after next × AreRecordsFrom version next after rs

-- The text has these records after its first line.
pub record HasRecords (text : List ℕ) (records : List RecordText) : Type 0 where
  pub header : List ℕ
  pub below : List ℕ
  pub first : IsFirstLine text header below
  pub are : (version : ℕ) → HasHeader text version → AreRecordsFrom version 1 below records
