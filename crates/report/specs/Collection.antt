-- The levels of a levels text, and the errors of a call that reads such a text alone and then writes.
--   order of work   the levels text is read, then its levels are found, then each is examined, then the result is
--                   written; the first error ends the call
use Rattle.std.specs.Prelude.{ℕ, ◌≡◌, ◌<◌, ◌≤◌, length, List}
use Rattle.board.specs.Lines.{lines_in, without_mark}
use Rattle.board.specs.Levels.{AreLevelsOf, most_levels}
use Rattle.devices.specs.Device.{count_after}
use Rattle.devices.specs.Reading.{most_bytes}
use Rattle.devices.specs.declared.reading.ReadFault.{ReadFault}
use Rattle.devices.specs.declared.reading.ReadFault.TheVariants as read
use Rattle.report.specs.declared.fault.Which.{Which}
use Rattle.report.specs.declared.fault.Which.TheVariants as which
use Rattle.report.specs.declared.fault.AuditError.{AuditError}
use Rattle.report.specs.declared.fault.AuditError.TheVariants.{Read, Write, TooLong, TooManyLevels, Memory}

-- the text is short enough to be read, these are its levels, and there are no more of them than a collection may have
pub record IsCollection (levels_text : List ℕ) (levels : List (List (List ℕ))) : Type 0 where
  pub short : length levels_text ≤ most_bytes
  pub levels_are : AreLevelsOf levels (lines_in (without_mark levels_text))
  pub few : length levels ≤ most_levels

-- the error of a call that can't read that text whole
abbrev pub error_of_read : ReadFault → Which → AuditError
error_of_read read.Device text = Read text
error_of_read read.TooLong text = TooLong text
error_of_read read.Memory text = Memory

-- the text has more levels than a collection may have
abbrev pub HasTooManyLevels : List ℕ → Type 0
HasTooManyLevels levels_text = (levels : List (List (List ℕ))) × AreLevelsOf levels (lines_in (without_mark levels_text)) × (most_levels < length levels)

-- the error comes at its place in the order of work; IsResult says which text is due to be written
abbrev pub IsDueFor : (List ℕ → Type 0) → List ℕ → AuditError → Type 0
IsDueFor IsResult levels_text (Read which.Levels) = Unit {0}
IsDueFor IsResult levels_text (TooLong which.Levels) = most_bytes < length levels_text
IsDueFor IsResult levels_text TooManyLevels = (length levels_text ≤ most_bytes) × HasTooManyLevels levels_text
IsDueFor IsResult levels_text Write = (text : List ℕ) × IsResult text
IsDueFor IsResult levels_text Memory = Unit {0}
IsDueFor IsResult levels_text _ = ⊥

-- the count of a device's failures before a call and after it
pub record Count : Type 0 where
  pub before : ℕ
  pub after : ℕ

-- the call counts no failure of the device
abbrev pub Stays : Count → Type 0
Stays c = c.after ≡ c.before

-- the call counts one failure of the device
abbrev pub Rises : Count → Type 0
Rises c = c.after ≡ count_after c.before

-- the call counts one failure of the device that failed, and none of the other
abbrev pub CountsError : Count → Count → AuditError → Type 0
CountsError levels result (Read which.Levels) = Rises levels × Stays result
CountsError levels result Write = Stays levels × Rises result
CountsError levels result _ = Stays levels × Stays result
