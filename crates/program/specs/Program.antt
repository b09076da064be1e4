-- What a run of the program prints, if the bytes of its files are known.
--   known    the bytes of the file with a name, if they are known
--   audit    the report of the levels and the answers; the status is 0 if no level is refused or missing, and otherwise 1
--   make     the answers that are made for the levels; the status is 0
--   dead     the map of the level with that number; the status is 0
use Rattle.std.specs.Prelude.{ℕ, ◌≡◌, ◌⊎◌, ◌<◌, ◌-◌, ◌^◌, length, List, Option, Some, IsSome}
use Rattle.std.specs.Io.KnownBytes.{Appends, Keeps}
use Rattle.devices.specs.Device.{count_after}
use Rattle.devices.specs.Reading.{most_bytes}
use Rattle.board.specs.declared.reading.BoardFault.{BoardFault}
use Rattle.arguments.specs.Command.{Request, audit, make, dead}
use Rattle.report.specs.Audit.{IsDue, IsFirstError}
use Rattle.report.specs.Collection.{HasTooManyLevels, IsDueFor}
use Rattle.report.specs.DeadMap.{HasNoLevel, IsDueMap, IsMapOf, IsRefusedLevel}
use Rattle.report.specs.MadeAnswers.{AreMadeAnswers, IsMadeText}
use Rattle.report.specs.Report.{IsReport}
use Rattle.report.specs.Summary.{status_of}
use Rattle.report.specs.declared.summary.Summary.{Summary}
use Rattle.report.specs.declared.fault.Which.TheVariants as which
use Rattle.report.specs.declared.fault.AuditError.{AuditError}
use Rattle.report.specs.declared.fault.AuditError.TheVariants.{Read, Write}
use Rattle.report.specs.declared.fault.DeadError.{DeadError}
use Rattle.report.specs.declared.fault.DeadError.TheVariants.{Audit}

-- the bytes of each file that the request names are known
abbrev pub AreKnown : (List ℕ → Option (List ℕ)) → Request → Type 0
AreKnown known (audit levels answers) = IsSome (known levels) × IsSome (known answers)
AreKnown known (make levels) = IsSome (known levels)
AreKnown known (dead levels n) = IsSome (known levels)

-- for the bytes of its files, the request asks for this text and ends with this status
abbrev pub Prints : (List ℕ → Option (List ℕ)) → Request → List ℕ → ℕ → Type 0
Prints known (audit levels answers) text status = (levels_text : List ℕ) × (known levels ≡ Some levels_text)
    × (answers_text : List ℕ) × (known answers ≡ Some answers_text)
    × (summary : Summary) × IsReport levels_text answers_text text summary × (status ≡ status_of summary)
Prints known (make levels) text status = (levels_text : List ℕ) × (known levels ≡ Some levels_text)
    × (count : ℕ) × AreMadeAnswers levels_text text count × (status ≡ 0)
Prints known (dead levels n) text status = (levels_text : List ℕ) × (known levels ≡ Some levels_text)
    × IsMapOf levels_text n text × (status ≡ 0)

-- if the count of failures stayed, and was below the highest count, the output holds what it held
abbrev pub KeepsUnlessFailed : (Option (List ℕ)) × ℕ → (Option (List ℕ)) × ℕ → Type 0
KeepsUnlessFailed (old, before) (new, after) = before < 2 ^ 64 - 1 → after ≡ before → Keeps old new

-- if the count of failures stayed, and was below the highest count, the text was added to what is held
abbrev pub SaysUnlessFailed : List ℕ → (Option (List ℕ)) × ℕ → (Option (List ℕ)) × ℕ → Type 0
SaysUnlessFailed text (old, before) (new, after) = before < 2 ^ 64 - 1 → after ≡ before → Appends old new text

-- the request can end with the error, for the bytes of its files that are known: the error comes at its place in the order of work, or
-- the answers can't be opened, which is tried before the levels are read
abbrev pub IsDueError : (List ℕ → Option (List ℕ)) → Request → DeadError → Type 0
IsDueError known (audit levels answers) (Audit error) = (error ≡ Read which.Answers)
    ⊎ ((levels_text answers_text : List ℕ) → known levels ≡ Some levels_text → known answers ≡ Some answers_text → IsDue levels_text answers_text error)
IsDueError known (make levels) (Audit error) = (levels_text : List ℕ) → known levels ≡ Some levels_text → IsDueFor (IsMadeText levels_text) levels_text error
IsDueError known (dead levels n) error = (levels_text : List ℕ) → known levels ≡ Some levels_text → IsDueMap levels_text n error
IsDueError known request error = ⊥

-- the bytes of the request's files have an error: a text is too long, there are too many levels, the answers have a fault, or no legal level
-- has the number
abbrev pub HasError : (List ℕ → Option (List ℕ)) → Request → Type 0
HasError known (audit levels answers) = (levels_text : List ℕ) × (known levels ≡ Some levels_text)
    × (answers_text : List ℕ) × (known answers ≡ Some answers_text) × (error : AuditError) × IsFirstError levels_text answers_text error
HasError known (make levels) = (levels_text : List ℕ) × (known levels ≡ Some levels_text) × ((most_bytes < length levels_text) ⊎ HasTooManyLevels levels_text)
HasError known (dead levels n) = (levels_text : List ℕ) × (known levels ≡ Some levels_text)
    × ((most_bytes < length levels_text) ⊎ (HasTooManyLevels levels_text ⊎ (HasNoLevel levels_text n ⊎ ((why : BoardFault) × IsRefusedLevel levels_text n why))))

-- the count of the output's failures rises by one if the error is a failed write, and stays otherwise
abbrev pub CountsOutput : ℕ → ℕ → DeadError → Type 0
CountsOutput before after (Audit Write) = after ≡ count_after before
CountsOutput before after error = after ≡ before
