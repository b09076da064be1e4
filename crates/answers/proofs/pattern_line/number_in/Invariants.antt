use Rattle.std.proofs.Common.{◌≡◌, ◌<◌, ◌^◌, take}
use Rattle.answers.specs.Reading.{number_in}
use Rattle.answers.proofs.pattern_line.number_in.Given as goal

abbrev pub invariant-loop-digit : goal.invariant-loop-digit
invariant-loop-digit l = (l.number ≡ number_in (take l.digit-index l.digits)) × (l.number < 2 ^ 64)
