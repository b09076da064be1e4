-- What a call that reads a whole text does to a source.
use Rattle.std.specs.Prelude.{ℕ, List, Option, ◌≡◌, ◌≤◌, length, Result, Ok, Err}
use Rattle.std.specs.Io.KnownBytes.{Consumes}
use Rattle.devices.specs.Device.{count_after}
use Rattle.devices.specs.declared.reading.ReadFault.{ReadFault}
use Rattle.devices.specs.declared.reading.ReadFault.TheVariants.{Device, TooLong, Memory}

-- The most bytes that a text may have.
abbrev pub most_bytes : ℕ
most_bytes = 33554432

-- Known bytes lose at most `most` bytes at their front.
abbrev pub TakesAtMost : ℕ → Option (List ℕ) → Option (List ℕ) → Type 0
TakesAtMost most old new = (taken : List ℕ) × (length taken ≤ most) × Consumes old new taken

-- The count of failures rises if the device failed, and otherwise stays.
abbrev pub CountsReadFault : {A : Type 0} → ℕ → ℕ → Result A ReadFault → Type 0
CountsReadFault old new (Ok _) = new ≡ old
CountsReadFault old new (Err Device) = new ≡ count_after old
CountsReadFault old new (Err TooLong) = new ≡ old
CountsReadFault old new (Err Memory) = new ≡ old
