-- Records that are read when their level is judged, and what a status says by such a record.
use Rattle.std.specs.Prelude.{ℕ, List, Option, None, Some}
use Rattle.std.specs.Option.{option_map}
use Rattle.std.specs.Borrow.{Bor}
use Rattle.answers.specs.Grammar.{RiseWithin}
use Rattle.answers.specs.Body.{Body, Entry}
use Rattle.answers.specs.Reading.{entry_of}
use Rattle.answers.specs.Records.{SaysOfLevel}
use Rattle.answers.specs.declared.record_text.RecordText.{RecordText}
use Rattle.report.specs.Status.{Says}
use Rattle.report.specs.declared.status.Status.{Status}

-- the rows say this status, with the answer that the grammar reads in the record, if there is one
abbrev pub SaysBy : List (List ℕ) → Option (Bor RecordText) → Status → Type 0
SaysBy rows None status = Says rows None status
SaysBy rows (Some r) status = (body : Body) → SaysOfLevel r.now body → Says rows (Some body) status

-- the answer is what the parser reads in a record, if there is one; only private functions use this
abbrev pub said_answer : Option (Bor RecordText) → Option Body
said_answer r = option_map (λ (b : Bor RecordText). (entry_of b.now).body) r

-- the numbers of the entries rise, and all are above this one
abbrev pub RiseFrom : ℕ → List Entry → Type 0
RiseFrom low entries = (high : ℕ) × RiseWithin low high entries
