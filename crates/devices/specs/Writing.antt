-- What a call that writes a text does to a sink.
use Rattle.std.specs.Prelude.{ℕ, List, Result, OnOk, OnErr}
use Rattle.std.specs.Io.KnownBytes.{Appends}
use Rattle.devices.specs.declared.device.Sink as sink
use Rattle.devices.specs.Device.{AppendsBeginning, CountsFault}

-- The call writes the whole text if it returns `Ok`. On a fault it writes a beginning of the text, and the count of failures rises.
-- `is` has the members of the trait at the sink's type.
pub record Writes {W A E : Type 0} (is : sink.Ghosts W) (old new : W) (text : List ℕ) (r : Result A E) : Type 0 where
  pub wrote : OnOk r (Appends (is.held old) (is.held new) text)
  pub beginning : OnErr r (AppendsBeginning (is.held old) (is.held new) text)
  pub cause : CountsFault (is.failures old) (is.failures new) r
