use Rattle.std.proofs.Common.{◌≡◌, map, take}
use Rattle.answers.specs.Grammar.{said_record}
use Rattle.answers.specs.Reading.{entry_of}
use Rattle.answers.proofs.reading.read_each.Given as goal

abbrev pub invariant-loop-text : goal.invariant-loop-text
invariant-loop-text l = map said_record l.records.items ≡ map entry_of (take l.text-index l.texts)
