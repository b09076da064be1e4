-- A certificate that is read line by line: what its record says, by the patterns before, what is next, and the lines that are left.
use Rattle.std.specs.Prelude.{List, [], ◌∷◌, ◌++◌}
use Rattle.answers.specs.declared.record.CertificateLine.{CertificateLine}
use Rattle.answers.specs.declared.record.CertificateLine.TheVariants.{Pattern, End, Zone, BadLine}
use Rattle.answers.specs.declared.record_text.CertificateLines.{CertificateLines}
use Rattle.answers.specs.Grammar.{Line, said_pattern, said_zone}
use Rattle.answers.specs.Body.{PatternLine, Body, PatternLines, OneZone, FirstBad}
use Rattle.answers.specs.Held.{kept_in}
use Rattle.answers.specs.Reading.{after_lines}

-- The kept lines that are left.
abbrev pub lines_left : CertificateLines → List Line
lines_left lines = kept_in lines.left

-- What the patterns before and the lines that are left come to.
abbrev pub certificate_body : List PatternLine → CertificateLines → Body
certificate_body patterns lines = after_lines lines.version (PatternLines patterns) (lines_left lines)

-- What the patterns before, this line and the lines that are left come to.
abbrev pub body_by_line : List PatternLine → CertificateLine → CertificateLines → Body
body_by_line patterns (Pattern p) lines = certificate_body (patterns ++ said_pattern p ∷ []) lines
body_by_line patterns End lines = PatternLines patterns
body_by_line patterns (Zone zone) lines = OneZone (said_zone zone)
body_by_line patterns (BadLine n why) lines = FirstBad n why
