-- The lines of the patterns so far are written, and the sink has not failed.
use Rattle.std.proofs.Common.{take}
use Rattle.std.specs.List.{flat_map}
use Rattle.answers.specs.Canonical.{ended, line_of_made}
use Rattle.devices.proofs.WrittenTexts.{Whole}
use Rattle.answers.proofs.writing.write_patterns.Given as goal

abbrev pub invariant-loop-pattern : goal.invariant-loop-pattern
invariant-loop-pattern g l = Whole g.W.Sink l.fn.sink l.sink (flat_map (λ p. ended (line_of_made p)) (take l.pattern-index l.patterns)) tt
