use Rattle.std.proofs.Common.{◌≡◌, [], length, map}
use Rattle.answers.specs.Grammar.{said_pattern}
use Rattle.answers.specs.Certificates.{certificate_body, lines_left}
use Rattle.answers.proofs.body.certificate.Given as goal

abbrev pub invariant-loop-patterns : goal.invariant-loop-patterns
invariant-loop-patterns l = record {
  count : l.left.patterns ≡ length l.patterns.items;
  read : certificate_body [] l.lines ≡ certificate_body (map said_pattern l.patterns.items) l.left;
}

abbrev pub decreases-loop-patterns : goal.decreases-loop-patterns
decreases-loop-patterns l = length (lines_left l.left)
