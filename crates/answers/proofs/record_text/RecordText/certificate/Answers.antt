use Rattle.std.proofs.Common.{ap, inl, map, refl}
use Rattle.answers.specs.declared.record_text.Kind.TheVariants as kind
use Rattle.answers.specs.Grammar.{Line}
use Rattle.answers.specs.Records.{body_lines, kind_line}
use Rattle.answers.proofs.BodyLines.{body_says}
use Rattle.answers.proofs.record_text.RecordText.certificate.Goals as goal

pub returns-in-Solution-clause-none : goal.returns-in-Solution-clause-none
returns-in-Solution-clause-none c = (map (λ (l : Line). l.text) (body_lines c.args.self.now), inl (ap kind_line c.in-Solution.is, refl))

pub returns-in-Unsolvable-clause-some : goal.returns-in-Unsolvable-clause-some
returns-in-Unsolvable-clause-some c =
    let r = c.args.self.now in
    rw c.in-Unsolvable.is (body_says r.version kind.Unsolvable (body_lines r))
