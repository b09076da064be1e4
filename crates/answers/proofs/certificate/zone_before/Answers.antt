use Rattle.std.proofs.Common.{ap, sym, ◌∙◌}
use Rattle.answers.specs.Grammar.{said_zone}
use Rattle.answers.specs.Certificates.{body_by_line}
use Rattle.answers.proofs.Bodies.{after_zone}
use Rattle.answers.proofs.certificate.zone_before.Goals as goal

pub returns-in-Some-clause-says : goal.returns-in-Some-clause-says
returns-in-Some-clause-says c = λ version patterns lines.
    after_zone version (said_zone c.args.zone) c.in-Some.ensures.some ∙ ap (λ line. body_by_line patterns line lines) (sym c.bad_line.ensures)
