-- The two texts that are made of one level and the body of one record, and why there is no verdict on them.
--   kind    1 for a solution, 2 for a certificate
--   body    the lines between the kind line and `end`
use Rattle.std.specs.Prelude.{◌≡◌, ◌≢◌, ℕ, ◌-◌, ◌<◌, ◌≤◌, List, [], ◌∷◌, ◌++◌, codes, if◌then◌else◌, ◌==◌, length}
use Rattle.std.specs.List.{AllByRecursion}
use Rattle.board.specs.Levels.{AreLevelsOf}
use Rattle.board.specs.Lines.{lines_in, without_mark}
use Rattle.report.specs.Audit.{IsFirstError}
use Rattle.report.specs.Report.{AreShort}
use Rattle.devices.specs.Reading.{most_bytes}
use Rattle.report.specs.declared.fault.AuditError.TheVariants.{Answers}
use Rattle.answers.specs.declared.fault.Why.{Why}
use Rattle.sokoaudit_c.specs.declared.judge.Fault.{Fault}
use Rattle.sokoaudit_c.specs.declared.judge.Fault.TheVariants.{Memory, LevelTooLong, BodyTooLong, ManyLevels, NoLevel, BodyEnd, Kind}
use Rattle.sokoaudit_c.specs.declared.numbers.Line.{Line}

-- kind 1 has the kind line of a solution, and any other the kind line of a certificate
abbrev pub kind_words : ℕ → List ℕ
kind_words kind = if kind == 1 then codes "solution\n" else codes "unsolvable\n"

-- the answers text has this record for level 1, and no other
abbrev pub answers_around : ℕ → List ℕ → List ℕ
answers_around kind body = codes "sokoban-answers 2\nlevel 1\n" ++ kind_words kind ++ body ++ codes "\nend\n"

-- no line of the body is `end`, if a line feed is added after its last line
abbrev pub NoneEndsIn : List ℕ → Type 0
NoneEndsIn body = AllByRecursion (λ line. line ≢ codes "end") (lines_in (body ++ 10 ∷ []))

-- the entry has the line counted from the first line of the body, and is otherwise the same
abbrev pub in_body : Line → Line
in_body l = record l { line = l.line - 3 }

-- the text has this many levels
abbrev pub HasLevels : List ℕ → ℕ → Type 0
HasLevels level_text n = (levels : List (List (List ℕ))) × AreLevelsOf levels (lines_in (without_mark level_text)) × (length levels ≡ n)

-- the text has several levels
abbrev pub HasSeveralLevels : List ℕ → Type 0
HasSeveralLevels level_text = (n : ℕ) × HasLevels level_text n × (1 < n)

-- the fault is the first of the level text, the kind and the body: another kind comes before all others, then a text is too long, then there
-- is no level or several, then the body has a line `end`; memory can run out at any time
abbrev pub IsFirstFault : List ℕ → ℕ → List ℕ → Fault → Type 0
IsFirstFault level kind body Memory = Unit {0}
IsFirstFault level kind body LevelTooLong = most_bytes < length level
IsFirstFault level kind body BodyTooLong = (length level ≤ most_bytes) × (most_bytes < length (answers_around kind body))
IsFirstFault level kind body ManyLevels = AreShort level (answers_around kind body) × HasSeveralLevels level
IsFirstFault level kind body NoLevel = AreShort level (answers_around kind body) × HasLevels level 0
IsFirstFault level kind body BodyEnd = HasLevels level 1 × (line : ℕ) × (why : Why) × IsFirstError level (answers_around kind body) (Answers line why)
IsFirstFault level kind body Kind = (kind ≢ 1) × (kind ≢ 2)

-- each fault has the number that include/sokoaudit.h gives it
abbrev pub number_of_fault : Fault → ℕ
number_of_fault Memory = 1
number_of_fault LevelTooLong = 2
number_of_fault BodyTooLong = 3
number_of_fault ManyLevels = 4
number_of_fault NoLevel = 11
number_of_fault BodyEnd = 17
number_of_fault Kind = 18
