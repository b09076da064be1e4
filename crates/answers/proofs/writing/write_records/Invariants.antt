-- The lines of the records so far are written, and the sink has not failed.
use Rattle.std.proofs.Common.{take}
use Rattle.std.specs.List.{flat_map}
use Rattle.answers.specs.Canonical.{ended, record_lines}
use Rattle.devices.proofs.WrittenTexts.{Whole}
use Rattle.answers.proofs.writing.write_records.Given as goal

abbrev pub invariant-loop-made : goal.invariant-loop-made
invariant-loop-made g l = Whole g.W.Sink l.fn.sink l.sink (flat_map (λ r. flat_map ended (record_lines r)) (take l.made-index l.records)) tt
