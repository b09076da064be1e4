-- What a device reports of itself: how often it failed, and the reader or writer that it wraps.
use Rattle.std.specs.Prelude.{ℕ, ◌≡◌, ◌<◌, ◌+◌, ◌^◌, ◌-◌, min, List, length, take, Option, Result, MatchResult}
use Rattle.std.specs.Io.KnownBytes.{Appends}
use Rattle.devices.specs.declared.device.Device.{Device}

-- The count of failures after one more: higher by one, but never above 2^64 - 1.
abbrev pub count_after : ℕ → ℕ
count_after count = min (count + 1) (2 ^ 64 - 1)

-- A fault raises the count of failures, and nothing else changes it.
abbrev pub CountsFault : {A E : Type 0} → ℕ → ℕ → Result A E → Type 0
CountsFault old new r = MatchResult r (λ _. new ≡ old) (λ _. new ≡ count_after old)

-- The reader or writer that a device wraps.
abbrev pub inner_of : {T : Type 0} → Device T → T
inner_of d = d.inner

-- How often a device failed.
abbrev pub failures_of : {T : Type 0} → Device T → ℕ
failures_of d = d.failures

-- Known bytes grow by a beginning of the text, and not by the whole text.
abbrev pub AppendsBeginning : Option (List ℕ) → Option (List ℕ) → List ℕ → Type 0
AppendsBeginning old new text = (k : ℕ) × (k < length text) × Appends old new (take k text)
