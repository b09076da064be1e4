-- The records of an answers text say what it spells, and what they say is one list of entries.
use Rattle.std.proofs.Common.{◌≡◌, ℕ, List, map, sym, ap, ◌∙◌}
use Rattle.answers.specs.Grammar.{SpellsEntries}
use Rattle.answers.specs.Body.{Entry}
use Rattle.answers.specs.Reading.{entry_of}
use Rattle.answers.specs.Records.{AreEntriesOf}
use Rattle.answers.specs.declared.record_text.RecordText.{RecordText}
use Rattle.answers.proofs.BodyLines.{one_list}

pub spells_records : (text : List ℕ) (levels : ℕ) (records held : List RecordText) → held ≡ records
    → (entries : List Entry) × SpellsEntries text levels entries × AreEntriesOf records entries → SpellsEntries text levels (map entry_of held)
spells_records text levels records held same found = rw (one_list records found.0 found.2 ∙ ap (map entry_of) (sym same)) at found.1
