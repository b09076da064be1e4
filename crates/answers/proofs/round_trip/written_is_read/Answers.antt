use Rattle.std.proofs.Common.{ℕ, List, subst}
use Rattle.answers.specs.declared.record.MadeRecord.{MadeRecord}
use Rattle.answers.specs.Canonical.{canonical}
use Rattle.answers.specs.Grammar.{SpellsEntries}
use Rattle.answers.specs.Body.{Entry}
use Rattle.answers.specs.RoundTrip.{AreLawfulRecords, SaysSame}
use Rattle.answers.proofs.Outcome.{one_spelling}
use Rattle.answers.proofs.SpelledRecords.{canonical_spells, entries_from, entries_same}
use Rattle.answers.proofs.round_trip.written_is_read.Goals as goal

same_again : (records : List MadeRecord) {levels : ℕ} → AreLawfulRecords 0 levels records → (entries : List Entry)
    → SpellsEntries (canonical records) levels entries → SaysSame records entries
same_again records {levels} lawful entries h =
    let one = one_spelling (canonical records) levels (entries_from 2 records) entries (canonical_spells records lawful) h in
    subst (SaysSame records) one (entries_same 2 records)

pub returns-clause-some : goal.returns-clause-some
returns-clause-some c = λ records levels lawful. (entries_from 2 records, canonical_spells records lawful)

pub returns-clause-same : goal.returns-clause-same
returns-clause-same c = λ records levels lawful entries h. same_again records lawful entries h
