-- A line is read as a zone, a pattern or neither. In each case, what the patterns before and the lines from it on come to is what is returned.
use Rattle.std.proofs.Common.{ap, arith, sym, ◌∙◌}
use Rattle.std.specs.Prelude.{option_map}
use Rattle.answers.specs.Grammar.{said_pattern, said_zone}
use Rattle.answers.specs.Certificates.{body_by_line, lines_left}
use Rattle.answers.specs.Held.{kept_in, said_line}
use Rattle.answers.proofs.Bodies.{excess_next, pattern_next, stray_next, zone_next}
use Rattle.answers.proofs.record_text.CertificateLines.next.Goals as goal

pub returns-in-Some-2-clause-says : goal.returns-in-Some-2-clause-says
returns-in-Some-2-clause-says c = λ patterns count.
    let lines = c.args.self.now in
    let zone = sym (c.in_ok-zone.ensures patterns count) ∙ ap (option_map said_zone) c.in-Some-2.is in
    zone_next lines.version patterns (said_line c.in-Some.line) (kept_in c.in-Some.rest) (lines_left lines) c.in-Some.ensures.some zone ∙ c.zone_before.ensures.says lines.version patterns lines

pub returns-in_default-3-clause-says : goal.returns-in_default-3-clause-says
returns-in_default-3-clause-says c = λ patterns count.
    let lines = c.args.self.now in
    let no_zone = sym (c.in_ok-zone.ensures patterns count) ∙ ap (option_map said_zone) c.in_default-2.is in
    let no_pattern = sym c.in_ok-pattern.ensures ∙ ap (option_map said_pattern) c.in_default-3.is in
    stray_next lines.version patterns (said_line c.in-Some.line) (kept_in c.in-Some.rest) (lines_left lines) c.in-Some.ensures.some no_zone no_pattern
    ∙ ap (λ line. body_by_line patterns line lines) (sym c.bad_line.ensures)

pub returns-then-self-eq-MOST_PATTERNS-clause-says : goal.returns-then-self-eq-MOST_PATTERNS-clause-says
returns-then-self-eq-MOST_PATTERNS-clause-says c = λ patterns count.
    let lines = c.args.self.now in
    let no_zone = sym (c.in_ok-zone.ensures patterns count) ∙ ap (option_map said_zone) c.in_default-2.is in
    let read = sym c.in_ok-pattern.ensures ∙ ap (option_map said_pattern) c.in-Some-3.is in
    excess_next lines.version patterns (said_line c.in-Some.line) (kept_in c.in-Some.rest) (lines_left lines) c.in-Some.ensures.some no_zone
    (said_pattern c.in-Some-3.pattern) read (count ∙ c.if-self-eq-MOST_PATTERNS.true)
    ∙ ap (λ line. body_by_line patterns line lines) (sym c.bad_line-then-self-eq-MOST_PATTERNS.ensures)

pub returns-clause-says : goal.returns-clause-says
returns-clause-says c = λ patterns count.
    let lines = c.args.self.now in
    let no_zone = sym (c.in_ok-zone.ensures patterns count) ∙ ap (option_map said_zone) c.in_default-2.is in
    let read = sym c.in_ok-pattern.ensures ∙ ap (option_map said_pattern) c.in-Some-3.is in
    pattern_next lines.version patterns (said_line c.in-Some.line) (kept_in c.in-Some.rest) (lines_left lines) c.in-Some.ensures.some no_zone
    (said_pattern c.in-Some-3.pattern) read (λ full. c.if-self-eq-MOST_PATTERNS.false (sym count ∙ full))

pub returns-clause-shorter : goal.returns-clause-shorter
returns-clause-shorter c = λ _ _. rw c.in-Some.ensures.some (omega arith)
